-- The names that most proofs cite, passed on from one place. Declares nothing.
pub use Rattle.std.proofs.Common.{◌≡◌, ℕ, ◌+◌, ◌<◌, ◌≤◌, Bool, true, false, length, arith, suc, cond, List, [], ◌∷◌, ◌++◌, take, get_or, slice_get, Option, Some, unwrap_or, refl, ap, ◌∙◌, None, is_some, sym, subst, map, ◌-◌, IfSome, not, inl, inr, ◌&&◌, zip, zero, rules}
pub use Rattle.std.proofs.Math.ListN.{length-append}
pub use Rattle.std.proofs.lemmas.Grind.{common_steps}
pub use Rattle.std.proofs.lemmas.List.{map-append, take_more, get_or_default}
pub use Rattle.std.proofs.lemmas.Map.Entries.{length-keys_of}
pub use Rattle.std.proofs.lemmas.Map.Keys.{IsDistinct-tail}
pub use Rattle.std.proofs.lemmas.Option.{slice_get_within, get_or_from_slice_get, slice_get-get_or, slice_get-map, same_Some, slice_get_cases}
pub use Rattle.std.proofs.lemmas.Result.{IfOk-weaker}
pub use Rattle.std.specs.Borrow.{Bor}
pub use Rattle.std.specs.Cmp.{IsEquivalence}
pub use Rattle.std.specs.List.{IsDistinct, AllByRecursion}
pub use Rattle.std.specs.Map.{keys_of, values_of, lookup, lookup_entry}
pub use Rattle.std.specs.Option.{option_map}
pub use Rattle.std.specs.Result.{result_ok}
pub use Rattle.std.specs.Vec.Iter.{into_iter_items}
pub use Rattle.half_store.specs.PairLists.{index_of, swap_remove_at, set_value_at, length-set_value_at, set_key_at}
pub use Rattle.half_store.specs.Store.{StoreState}
pub use Rattle.half_store.specs.Work.{Work}
pub use Rattle.half_store.specs.Search.{found_index}
pub use Rattle.half_store.specs.declared.store.find.Found.{Found}
pub use Rattle.half_store.specs.declared.store.find.Vacancy.{Vacancy}
pub use Rattle.halfbrown.specs.CostRanges.{TallyGrewBy, add_costs}
pub use Rattle.halfbrown.specs.Costs.{IsSearchCost}
pub use Rattle.halfbrown.specs.Entry.{with_entry_value, occupied}
pub use Rattle.halfbrown.specs.EntryView.{entry_value, map_with_value, IsWritten}
pub use Rattle.halfbrown.specs.Equality.{holds_equal_pair}
pub use Rattle.halfbrown.specs.Collect.{Gives}
pub use Rattle.halfbrown.specs.Growth.{capacity_for_insert, is_full}
pub use Rattle.halfbrown.specs.Insertion.{Prepares}
pub use Rattle.halfbrown.specs.Layout.{IsMapInvariant}
pub use Rattle.halfbrown.specs.Lookup.{KeyFoundAt, KeyMissing, KeySearch}
pub use Rattle.halfbrown.specs.Pairs.{value_of, holds, holds_by, put, set_value, swap_out_by}
pub use Rattle.halfbrown.specs.Updates.{SwapRemoves, HasPut, HasRemovedBy}
pub use Rattle.halfbrown.specs.Run.{Step}
pub use Rattle.halfbrown.specs.State.{State, state_in, store_in, IsPlacedIn, IsVacancyIn, IsTableCapacity, map_with_pairs, WithPairs, IsValid}
