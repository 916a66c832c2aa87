-- What a memo of squares keeps.
use Rattle.std.specs.Prelude.{◌≡◌, ◌*◌, ℕ, List, nat_eq, IfSome}
use Rattle.halfbrown.specs.Pairs.{value_of}

-- each number that has a value has its square
abbrev pub AreSquares : List (ℕ × ℕ) → Type 0
AreSquares pairs = (n : ℕ) → IfSome (value_of nat_eq pairs n) (λ square. square ≡ n * n)
