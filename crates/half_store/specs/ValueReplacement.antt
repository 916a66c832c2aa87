-- What becomes of a pair whose value is handed to a closure.
use Rattle.std.specs.Prelude.{◌≡◌, ℕ, ◌-◌, Bool, List, [], ◌∷◌, ◌++◌, length, slice_get, Option, None, Some, is_none, if◌then◌else◌}
use Rattle.std.specs.Borrow.{Bor}
use Rattle.half_store.specs.PairLists.{set_value_at, swap_remove_at}

-- a pair whose value was replaced: in a vector it goes last, and the last pair takes its index, in a table it stays
module _ {K V : Type 0} (is_vec : Bool) (pairs : List (K × V)) (index : ℕ) where
  -- its index then
  abbrev pub index_after_replacing : ℕ
  index_after_replacing = if is_vec then length pairs - 1 else index

  -- the pairs then, if it has this key and this value
  abbrev pub pairs_if_kept : K → V → List (K × V)
  pairs_if_kept key value = if is_vec then swap_remove_at pairs index ++ (key, value) ∷ [] else set_value_at pairs index value

  -- the same if a value is left, and otherwise the pairs without it
  abbrev pub pairs_after_answer : K → Option V → List (K × V)
  pairs_after_answer key None = swap_remove_at pairs index
  pairs_after_answer key (Some value) = pairs_if_kept key value

module _ {K V : Type 0} (returns : Bor K → V → Option V → Type 0) where
  -- the closure was given this key and value, and returned this answer
  pub record ClosureAnswers (key : K) (value : V) (answer : Option V) : Type 0 where
    pub shown : Bor K
    pub shows : shown.now ≡ key
    pub met : returns shown value answer

  -- the closure was given the pair at this index: it has the value that was returned, or if none was it is gone, and its key removed
  pub record ReplacesValue (is_vec : Bool) (old : List (K × V)) (index : ℕ) (new : List (K × V)) (removed : Option K) : Type 0 where
    pub key : K
    pub value : V
    pub answer : Option V
    pub pair : slice_get old index ≡ Some (key, value)
    pub answered : ClosureAnswers key value answer
    pub pairs : new ≡ pairs_after_answer is_vec old index key answer
    pub removed_is : removed ≡ (if is_none answer then Some key else None)
