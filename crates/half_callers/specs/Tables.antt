-- The worked tables, and what searches in them and insertions cost.
use Rattle.std.specs.Prelude.{ℕ, false, List, map}
use Rattle.halfbrown.specs.CostRanges.{Cost, exactly}
use Rattle.halfbrown.specs.State.{State, state_with}

-- exactly this many hashes, comparisons and bucket reads
abbrev pub exact : ℕ → ℕ → ℕ → Cost
exact asked compared looked = record { asked = asked; compared = exactly compared; looked = exactly looked }

-- these keys, each with itself as its value
abbrev pub pairs_of : List ℕ → List (ℕ × ℕ)
pairs_of keys = map (λ key. (key, key)) keys

-- a table of these pairs and this capacity; of the other state no cost depends on anything
abbrev pub some_table : State ℕ ℕ ℕ → List (ℕ × ℕ) → ℕ → State ℕ ℕ ℕ
some_table any pairs capacity = state_with any false pairs capacity any.builder
