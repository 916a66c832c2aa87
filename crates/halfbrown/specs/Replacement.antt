-- What an entry is after its value was handed to a closure, which returned another or none.
use Rattle.std.specs.Prelude.{◌≡◌, ℕ, List, [], ◌∷◌, ◌++◌, Option, None, Some, IfSome, MatchOption, if◌then◌else◌}
use Rattle.std.specs.Borrow.{Bor}
use Rattle.half_store.specs.Work.{Work}
use Rattle.half_store.specs.ValueReplacement.{ClosureAnswers}
use Rattle.halfbrown.specs.EntryView.{EntryView, map_of, is_occupied, entry_key, entry_value, entry_pair, map_with_value, pairs_without}
use Rattle.halfbrown.specs.RawEntry.{work_after_probe}
use Rattle.halfbrown.specs.State.{WithPairs}

module _ {K V S : Type 0} where
  -- the pairs once the entry's key has the value that was returned: in a vector its pair goes last, in a table it keeps its index
  abbrev pub entry_pairs_if_kept : EntryView K V S → K → V → List (K × V)
  entry_pairs_if_kept entry key value = if (map_of entry).is_vec then pairs_without entry ++ (key, value) ∷ [] else (map_with_value entry value).pairs

  -- the stored key stays, with the value that was returned
  pub record IsReplaced (entry : EntryView K V S) (key : K) (value : V) (result : EntryView K V S) : Type 0 where
    pub pair : entry_pair result ≡ Some (key, value)
    pub key_is : entry_key result ≡ Some key
    pub value_is : entry_value result ≡ Some value
    pub map : WithPairs (map_of entry) (entry_pairs_if_kept entry key value) (map_of result)
    pub writes : (v : V) → WithPairs (map_of entry) (entry_pairs_if_kept entry key v) (map_with_value result v)
    pub without : pairs_without result ≡ pairs_without entry

  -- the pair is gone, and the entry is vacant, with the stored key
  pub record IsVacated (entry : EntryView K V S) (key : K) (result : EntryView K V S) : Type 0 where
    pub key_is : entry_key result ≡ Some key
    pub no_value : entry_value result ≡ None
    pub map : WithPairs (map_of entry) (pairs_without entry) (map_of result)
    pub writes : (v : V) → WithPairs (map_of entry) (pairs_without entry ++ (key, v) ∷ []) (map_with_value result v)
    pub without : pairs_without result ≡ pairs_without entry

  -- the closure was given the stored key and its value, and its answer decides: none removes the pair, and a value replaces that of the pair
  pub record ReplacesEntry (returns : Bor K → V → Option V → Type 0) (entry result : EntryView K V S) : Type 0 where
    pub key : K
    pub value : V
    pub answer : Option V
    pub pair : entry_pair entry ≡ Some (key, value)
    pub answered : ClosureAnswers returns key value answer
    pub after : MatchOption answer (IsVacated entry key result) (λ v. IsReplaced entry key v result)

  -- one insertion probe if the pair is gone, and nothing else
  abbrev pub IsReplacementCost : (S → K → ℕ) → EntryView K V S → Work → Work → Type 0
  IsReplacementCost hash result before after = IfSome (entry_key result) (λ key.
      after ≡ (if is_occupied result then before else work_after_probe hash (map_of result) (hash (map_of result).builder key) before))
