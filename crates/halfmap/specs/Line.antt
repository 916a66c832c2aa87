-- Where a line ends.
use Rattle.std.specs.Prelude.{◌≡◌, ◌≢◌, ℕ, List, ◌++◌, codes, ◌⊎◌, Bool, ◌==◌}

-- the byte is a LF
abbrev pub is_lf : ℕ → Bool
is_lf b = b == 10

-- the text is the line without this end, if it has it
abbrev pub IsWithout : List ℕ → List ℕ → List ℕ → Type 0
IsWithout end line text =
    (line ≡ text ++ end) ⊎ ((text ≡ line) × ((front : List ℕ) → line ≢ front ++ end))

-- the text is the line without a LF and then a CR at its end
pub record IsTextOfLine (line text : List ℕ) : Type 0 where
  pub bare : List ℕ
  pub without_lf : IsWithout (codes "\n") line bare
  pub without_cr : IsWithout (codes "\r") bare text
