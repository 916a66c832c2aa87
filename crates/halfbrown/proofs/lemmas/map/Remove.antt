-- Removals: what the map is without the pair that was found.
use Rattle.halfbrown.specs.Pairs.{IsQuery}
use Rattle.halfbrown.proofs.Common.{◌≡◌, ℕ, ◌≤◌, Bool, true, length, arith, ◌++◌, slice_get, Option, Some, ◌∙◌, None, sym, map, ◌-◌, common_steps}
use Rattle.halfbrown.proofs.Common.{length-keys_of, slice_get_within, IsEquivalence, lookup, lookup_entry, option_map, swap_remove_at, StoreState}
use Rattle.halfbrown.proofs.Common.{state_in, IsMapInvariant, KeyFoundAt, swap_out_by, SwapRemoves, State, WithPairs, IsValid}
use Rattle.std.proofs.Common.{option_to_list}
use Rattle.std.proofs.lemmas.List.{append-nil}
use Rattle.std.proofs.lemmas.Option.{slice_get_past}
use Rattle.std.specs.Prelude.{IfNone}
use Rattle.half_store.specs.StoreRemoval.{StoreShiftRemoves}
use Rattle.halfbrown.specs.Lookup.{FindsIndex}
use Rattle.halfbrown.specs.Updates.{SwapRemovesAt, ShiftRemoves, ShiftRemovesAt}
use Rattle.halfbrown.proofs.callers.Pairs.{has_left, has_all, has_removed_by}
use Rattle.halfbrown.proofs.lemmas.map.Layout.{state_of, kept_as}
use Rattle.halfbrown.proofs.lemmas.pairs.Indices.{value_of_entry, index_of_pair, last_taken, some_is_not_none}
use Rattle.std.proofs.lemmas.List.Edits.{length-remove}
use Rattle.std.proofs.lemmas.List.Sorted.{IsPermutation-remove}
use Rattle.std.specs.List.{remove}
use Rattle.halfbrown.proofs.lemmas.pairs.Changes.{map-remove, IsDistinct-remove, remove_absent, remove_found}

module _ {K V S : Type 0} (limit : ℕ) (eq : K → K → Bool) (test : K → Bool) (old new : State K V S) where
  -- the pairs without the one whose key passes
  pub removed_as : {R : Type 0} → IsEquivalence eq → ((k other : K) → test k ≡ true → test other ≡ eq k other) → IsValid limit eq old
      → IsValid limit eq new
      → WithPairs old (swap_out_by test old.pairs) new → (held result : Option R) → result ≡ held → IfNone result (new ≡ old)
      → SwapRemoves limit eq test old held result new
  removed_as laws one_class before now after held result returned unchanged = grind (arith, common_steps, has_removed_by)

  -- the same removal, of which the value is returned
  pub removed_value : (pair : Option (K × V)) (value : Option V) → value ≡ option_map (λ p. p.1) pair
      → SwapRemoves limit eq test old (lookup_entry test old.pairs) pair new
      → SwapRemoves limit eq test old (lookup test old.pairs) value new
  removed_value None value is removes = grind (arith, common_steps, value_of_entry)
  removed_value (Some pair) value is removes = grind (arith, common_steps, value_of_entry test old.pairs, removes.returned)

module _ {K V S : Type 0} (limit : ℕ) (eq : K → K → Bool) (laws : IsEquivalence eq) (test : K → Bool)
    (one_class : IsQuery eq test) (old : State K V S) (before : IsValid limit eq old) where
  -- the pair that a search found is taken out
  pub taken_found : (index : ℕ) (pair : K × V) (new : State K V S) → KeyFoundAt test old.pairs index → slice_get old.pairs index ≡ Some pair
      → WithPairs old (swap_remove_at old.pairs index) new → IsValid limit eq new
      → SwapRemoves limit eq test old (lookup_entry test old.pairs) (Some pair) new
  taken_found index pair new found at after now =
      removed_as limit eq test old new laws one_class before now
      (record { pairs = after.pairs ∙ sym found.take_is; form = after.form; capacity = after.capacity; builder = after.builder })
      _ _ (sym at ∙ sym found.pair) tt

module _ {K V S : Type 0} (limit : ℕ) (eq : K → K → Bool) (old : State K V S) (index : ℕ) where
  -- the pair at an index is taken out
  pub removed_at : IsEquivalence eq → (pair : K × V) (new : State K V S) → IsValid limit eq old → IsValid limit eq new
      → slice_get old.pairs index ≡ Some pair
      → WithPairs old (swap_remove_at old.pairs index) new → SwapRemovesAt limit eq old index (Some pair) new
  removed_at laws pair new before now at after =
      let found = index_of_pair eq laws old.pairs index pair before.distinct at in
      let removed = has_removed_by eq laws (eq pair.0) (laws.congr pair.0) old.pairs before.distinct in
      grind (arith, common_steps, found.take_is, removed)

  -- there is none
  pub none_removed_at : IsValid limit eq old → length old.pairs ≤ index → SwapRemovesAt limit eq old index None old
  none_removed_at before past = grind (arith, common_steps, slice_get_past)

module _ {K V S : Type 0} (limit : ℕ) (eq : K → K → Bool) (old new : State K V S) where
  -- the last pair is taken out, and the others stay as they are
  pub last_removed : (result : Option (K × V)) → SwapRemovesAt limit eq old (length old.pairs - 1) result new
      → old.pairs ≡ new.pairs ++ option_to_list result
  last_removed None removes = grind (arith, common_steps, append-nil)
  last_removed (Some pair) removes = grind (arith, common_steps, last_taken old.pairs pair)

module _ {K V S : Type 0} (limit : ℕ) (eq : K → K → Bool) (laws : IsEquivalence eq) where
  -- a store without the pair at an index
  module _ (hash : K → ℕ) (builder : S) (old new : StoreState K V) (kept : IsMapInvariant limit eq hash old) (index : ℕ) (pair : K × V)
      (told : StoreShiftRemoves old new index pair) where
    -- keeps what the fields of a map keep
    pub kept_shifted : IsMapInvariant limit eq hash new
    kept_shifted = grind (arith, common_steps, IsDistinct-remove, kept_as, length-keys_of, length-remove, map, map-remove, slice_get_within)

    -- and is the map without it
    pub shift_removed : ShiftRemovesAt limit eq (state_in old builder) index (Some pair) (state_in new builder)
    shift_removed =
        let found = index_of_pair eq laws old.pairs index pair kept.distinct told.removed in
        let left = has_left eq laws (eq pair.0) (laws.congr pair.0) old.pairs kept.distinct index found (remove old.pairs index)
        (λ p. IsPermutation-remove old.pairs index p found.within) in
        grind (arith, common_steps, left, state_of eq hash limit new builder kept_shifted)

  module _ (old : State K V S) (before : IsValid limit eq old) where
    -- there is none
    pub shift_none_held : (index : ℕ) → length old.pairs ≤ index → ShiftRemovesAt limit eq old index None old
    shift_none_held index past = grind (arith, common_steps, slice_get_past)

    module _ (test : K → Bool) (one_class : IsQuery eq test) where
      -- a removal at the index that a search found
      pub shift_found : (index : ℕ) (result : Option (K × V)) (new : State K V S) → FindsIndex test old.pairs (Some index)
          → ShiftRemovesAt limit eq old index result new
          → ShiftRemoves limit eq test old (lookup_entry test old.pairs) result new
      shift_found index None new found told = absurd (some_is_not_none old.pairs index found.within (sym told.returned))
      shift_found index (Some pair) new found told =
          let same = remove_found test old.pairs index found.index_is in
          let removed = has_left eq laws test one_class old.pairs before.distinct index found (remove old.pairs index)
          (λ p. IsPermutation-remove old.pairs index p found.within) in
          grind (arith, common_steps)

      -- a search that found none
      pub absent_in_order : (result : Option (K × V)) → result ≡ None → FindsIndex test old.pairs None
          → ShiftRemoves limit eq test old (lookup_entry test old.pairs) result old
      absent_in_order result none absent =
          let same = remove_absent test old.pairs absent.index in
          grind (arith, common_steps, has_all eq laws test one_class old.pairs before.distinct absent, same)

-- the same removal, of which the value is returned
module _ {K V S : Type 0} (limit : ℕ) (eq : K → K → Bool) (old : State K V S) (test : K → Bool) where
  pub value_in_order : (pair : Option (K × V)) (value : Option V) (new : State K V S) → value ≡ option_map (λ p. p.1) pair
      → ShiftRemoves limit eq test old (lookup_entry test old.pairs) pair new
      → ShiftRemoves limit eq test old (lookup test old.pairs) value new
  value_in_order pair value new is told = grind (arith, common_steps, value_of_entry)
