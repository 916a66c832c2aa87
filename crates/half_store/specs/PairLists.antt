-- Reading and changing a list of pairs by an index: `set_value_at` and `set_key_at` are std's.
pub use Rattle.std_collections.specs.Layout.Columns.{set_value_at, set_key_at, length-set_value_at}
use Rattle.std.specs.Prelude.{ℕ, suc, Bool, if◌then◌else◌, List, [], ◌∷◌, Option, None, Some, swap_remove}
use Rattle.std.specs.Option.{option_map}

-- the pairs keep their keys and get these values, one after the other; pairs for which there is none keep theirs
abbrev pub set_values : {K V : Type 0} → List (K × V) → List V → List (K × V)
set_values [] vs = []
set_values (p ∷ ps) [] = p ∷ ps
set_values (p ∷ ps) (v ∷ vs) = (p.0, v) ∷ set_values ps vs

-- the element at this index, which is below the length, is gone, and the last one is in its place
abbrev pub swap_remove_at : {X : Type 0} → List X → ℕ → List X
swap_remove_at [] index = []
swap_remove_at (x ∷ xs) index = swap_remove (x ∷ xs) index x

-- the index of the first key that passes
abbrev pub index_of : {K : Type 0} → (K → Bool) → List K → Option ℕ
index_of test [] = None
index_of test (k ∷ ks) = if test k then Some 0 else option_map suc (index_of test ks)
