-- The words of a text, and how each is printed.
use Rattle.std.specs.Prelude.{◌≡◌, ℕ, Bool, List, [], ◌∷◌, ◌++◌, bytes_eq, codes, decimal}
use Rattle.std.specs.Borrow.{Bor}
use Rattle.std.specs.Iterator.{Drains}
use Rattle.std.specs.Str.Iter.{split_whitespace_rest, split_whitespace_steps}
use Rattle.std.specs.declared.str.SplitWhitespace.{SplitWhitespace}

-- these are the words of a text, in order: what `split_whitespace` gives of it
abbrev pub AreWordsOf : List ℕ → List (Bor (List ℕ)) → Type 0
AreWordsOf text words = (parts : SplitWhitespace) × (split_whitespace_rest parts ≡ text) × Drains split_whitespace_steps parts words

-- whether two words are the same text
abbrev pub same_word : Bor (List ℕ) → Bor (List ℕ) → Bool
same_word word other = bytes_eq word.now other.now

-- the line of a word: the word, a space, how often it comes, and a line end
abbrev pub line_of : Bor (List ℕ) × ℕ → List ℕ
line_of word = word.0.now ++ (codes " " ++ (decimal word.1 ++ 10 ∷ []))
