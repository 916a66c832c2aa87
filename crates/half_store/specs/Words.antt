-- The words that stand in buckets, and how large they may be.
use Rattle.std.specs.Prelude.{◌≡◌, ℕ, ◌-◌, ◌^◌, ◌≤◌, nat_lt, if◌then◌else◌, List, [], vec_len, vec_capacity}
use Rattle.std.specs.declared.vec.Vec.{Vec}
use Rattle.half_store.specs.declared.words.WordArray.{WordArray}
use Rattle.half_store.specs.declared.words.WordArray.TheVariants.{FourBytes, EightBytes}
use Rattle.half_store.specs.declared.words.WordMemory.{WordMemory}
use Rattle.half_store.specs.declared.words.WordMemory.TheVariants.{FourBytes as MemoryOfFour, EightBytes as MemoryOfEight}

-- the words, in order
abbrev pub words_of : WordArray → List ℕ
words_of (FourBytes v) = v
words_of (EightBytes v) = v

-- the greatest word: 2^32 - 1 in four bytes, 2^62 in eight
abbrev pub greatest_word : WordArray → ℕ
greatest_word (FourBytes v) = 2 ^ 32 - 1
greatest_word (EightBytes v) = 2 ^ 62

-- the bytes of a word that may be as great as this: four exactly below 2^32
abbrev pub word_size : ℕ → ℕ
word_size most = if nat_lt most (2 ^ 32) then 4 else 8

-- words up to `most` serve a table with this capacity: its entry indices fit them, and they take no more bytes than that needs
pub record AreWordsFor (most capacity : ℕ) : Type 0 where
  pub fits : capacity ≤ most
  pub size : word_size most ≡ word_size capacity

-- for how many words there is memory
abbrev pub room_of : WordMemory → ℕ
room_of (MemoryOfFour v) = vec_capacity v
room_of (MemoryOfEight v) = vec_capacity v

-- the greatest word that will fit, as in `greatest_word`
abbrev pub greatest_word_in : WordMemory → ℕ
greatest_word_in (MemoryOfFour v) = 2 ^ 32 - 1
greatest_word_in (MemoryOfEight v) = 2 ^ 62

-- a vector with no element
pub record IsEmptyVec {Z : Type 0} (v : Vec ℕ Z) : Type 0 where
  pub items : v.items ≡ []
  pub len : vec_len v ≡ 0

-- no word is there yet
abbrev pub HasNoWords : WordMemory → Type 0
HasNoWords (MemoryOfFour v) = IsEmptyVec v
HasNoWords (MemoryOfEight v) = IsEmptyVec v
