-- The names that most proofs cite, passed on from one place. Declares nothing.
pub use Rattle.std.proofs.Common.{◌≡◌, ◌≤◌, length, take, vec_len, vec_capacity, ◌+◌, ◌++◌, ◌*◌, inr, refl, ◌∙◌, arith, ℕ, ◌-◌, ◌^◌, ◌<◌, zero, suc, inl, sym, ap, Bool, List, Some, get_or, slice_index, Option, None, subst, [], ◌∷◌, if◌then◌else◌, ◌≢◌, true, false, ◌==◌, set, replicate, count_by, ◌⊎◌, cond, nat_lt, map, drop}
pub use Rattle.std.proofs.lemmas.Bool.{cases_lt, cases_eq, eq-eqb, ne_eqb, lt-ltb, le-ltb}
pub use Rattle.std.proofs.lemmas.Bool.Decides.{nat_tests}
pub use Rattle.std.proofs.lemmas.Grind.{common_steps}
pub use Rattle.std.proofs.lemmas.List.{length-set, get_or-set_same, get_or-set_other, get_or_past, take_all, length-replicate, get_or-replicate, get_or_append_left, get_or_push, get_or_default}
pub use Rattle.std.proofs.lemmas.List.Sums.{sum_by-cons, count_by-le-length}
pub use Rattle.std.proofs.lemmas.Map.Entries.{length-keys_of}
pub use Rattle.std.proofs.lemmas.Option.{get_or_from_slice_get, slice_get-get_or, slice_get_within, same_Some}
pub use Rattle.std.specs.Fn.{FnReturnsAt}
pub use Rattle.std.specs.List.{AllZip, slice_get, swap_remove, remove, zip}
pub use Rattle.half_store.specs.Capacity.{capacity_of, IsBucketCount, buckets_of}
pub use Rattle.half_store.specs.Columns.{ColumnsState}
pub use Rattle.half_store.specs.PairLists.{set_key_at, set_value_at, set_values, swap_remove_at}
pub use Rattle.half_store.specs.Reach.{reach, filling_reads_in, probe_distance, bucket_after, home, load, bucket_is_loaded}
pub use Rattle.half_store.specs.Search.{ReturnsAt}
pub use Rattle.half_store.specs.Slots.{slots_from, slot_at, hash_of_word, EachOnce, HasVacantSlot, ProbeInvariant, stored, IsSlotVacancy, distance_from_home}
pub use Rattle.half_store.specs.Store.{vector_of, table_of}
pub use Rattle.half_store.specs.Table.{TableState, TableSearch, IsIndexedWithGap, IsOtherEmpty, state_of_words, IsIndexed}
pub use Rattle.half_store.specs.Words.{AreWordsFor, words_of}
pub use Rattle.half_store.specs.Work.{Work, reads_up_to, looked_more, ReadsWithin, removal_reads, compared_more}
