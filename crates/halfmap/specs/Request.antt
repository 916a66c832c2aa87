-- How requests are written.
use Rattle.std.specs.Prelude.{◌≡◌, ℕ, ◌^◌, ◌<◌, ◌≤◌, List, ◌∷◌, ◌++◌, length, codes, Bool, ◌==◌}
use Rattle.std.specs.Str.Parse.{IsNumeral, digits_value}
use Rattle.halfmap.specs.declared.request.Request.{Request}
use Rattle.halfmap.specs.declared.request.Request.TheVariants.{Insert, Get, Remove, Form}

-- the word writes this number: 1 to 20 decimal digits of a value that fits 64 bits
pub record Writes (word : List ℕ) (n : ℕ) : Type 0 where
  pub numeral : IsNumeral 10 word
  pub short : length word ≤ 20
  pub value : n ≡ digits_value 10 word
  pub fits : n < 2 ^ 64

-- the text is these letters, and a word that writes this number
pub record WritesAfter (letters text : List ℕ) (n : ℕ) : Type 0 where
  pub word : List ℕ
  pub text_is : text ≡ letters ++ word
  pub word_writes : Writes word n

-- the byte is a space
abbrev pub is_space : ℕ → Bool
is_space b = b == 32

-- the text is two words that write these numbers, parted by one space
pub record WritesTwo (text : List ℕ) (m n : ℕ) : Type 0 where
  pub first : List ℕ
  pub second : List ℕ
  pub text_is : text ≡ first ++ 32 ∷ second
  pub first_writes : Writes first m
  pub second_writes : Writes second n

-- the text is `i K V`
pub record WritesInsertion (text : List ℕ) (k v : ℕ) : Type 0 where
  pub words : List ℕ
  pub text_is : text ≡ codes "i " ++ words
  pub words_write : WritesTwo words k v

-- the text of a request: `i K V`, `g K`, `r K` or `f`
abbrev pub IsTextOf : Request → List ℕ → Type 0
IsTextOf (Insert k v) text = WritesInsertion text k v
IsTextOf (Get k) text = WritesAfter (codes "g ") text k
IsTextOf (Remove k) text = WritesAfter (codes "r ") text k
IsTextOf Form text = text ≡ codes "f"
