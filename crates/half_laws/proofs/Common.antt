-- The names that most proofs cite, passed on from one place. Declares nothing.
pub use Rattle.halfbrown.proofs.Common.{◌≡◌, ℕ, ◌≤◌, Bool, true, List, [], ◌∷◌, length, is_some, refl, sym, ap, ◌∙◌, arith, ◌+◌}
pub use Rattle.halfbrown.proofs.Common.{subst, common_steps, IsEquivalence, IsDistinct, keys_of, length-keys_of}
pub use Rattle.halfbrown.proofs.Common.{holds_equal_pair, value_of, Work, State, ◌<◌, false, map, IfSome, IsValid}
pub use Rattle.halfbrown.proofs.Common.{IsTableCapacity, zero, suc, ◌-◌, inl, inr, get_or, Option, None, Some}
pub use Rattle.halfbrown.proofs.Common.{capacity_for_insert, is_full, holds, Step, not, ◌&&◌, cond, unwrap_or, put, ◌++◌}
pub use Rattle.halfbrown.proofs.Common.{map-append, add_costs, index_of, TallyGrewBy, IsSearchCost, holds_by}
pub use Rattle.std.proofs.Common.{◌*◌, leb, nat_lt, sum_by, Contains, ◌⊎◌, if◌then◌else◌, ◌==◌, fold, count_by, max}
pub use Rattle.std.proofs.Common.{IsPermutation}
pub use Rattle.std.proofs.lemmas.List.Sums.{count_by-le-length, get_or-le-sum_by, sum_by-cons}
pub use Rattle.halfbrown.proofs.callers.Pairs.{lookup_permuted, len_taken, len_put}
pub use Rattle.halfbrown.specs.Costs.{search_asked, IsKeySearchCost, hit_reads, filling_reads, keys_of_hash, miss_reads}
pub use Rattle.halfbrown.specs.Costs.{search_compares, search_reads, search_cost, key_search_cost, switched, grown}
pub use Rattle.halfbrown.specs.Costs.{insertion_reads, insert_cost, raw_insert_cost, new_key_cost, is_switch_refused}
pub use Rattle.halfbrown.specs.Costs.{capacity_after_switch, capacity_after_growth, addition_grows, IsInsertCost}
pub use Rattle.half_store.specs.Capacity.{buckets_of, capacity_of, IsBucketCount, least_table_capacity, least_capacity}
pub use Rattle.half_store.specs.Capacity.{is_vec_shrunk, next_bucket_count, least_buckets, grown_capacity}
pub use Rattle.half_store.proofs.lemmas.capacity.{four-le_count, buckets_for-least, buckets_of-capacity_of}
pub use Rattle.half_store.proofs.lemmas.capacity.{next_bucket_count-some, buckets_for-grown, quarter, capacity_for-capacity_of}
pub use Rattle.half_laws.specs.MeanLaws.{InHalfFullTables, InTables, MissLaw, MissTotalLaw, MeanMissIsAtMost}
pub use Rattle.std.proofs.lemmas.Bool.{cases_lt, cases_eq, or_cases, leb-true, lt-ltb, both_ways, false≢true, and_parts}
pub use Rattle.std.proofs.lemmas.Bool.{and_right}
pub use Rattle.halfbrown.specs.declared.run.Command.{Command}
pub use Rattle.halfbrown.specs.declared.run.Command.TheVariants.{InsertNew, Insert, EntryOrInsert, RawOrInsert, Remove, Clear}
pub use Rattle.halfbrown.specs.Growth.{capacity_for_growth, capacity_for_new_key, IsShrunk, is_vec_after, capacity_after}
pub use Rattle.halfbrown.specs.Run.{Executes, IsValidStep, Leaves, is_shrink, StepsLead, has_shrink, commands_of, cost_of}
pub use Rattle.halfbrown.specs.Run.{says_put, switches, replies_of, value_or, refusal_in, command_cost}
pub use Rattle.half_laws.specs.RunLaws.{is_reserve, form_changed, FormLaw, SwitchLaw, TableLaw, OneSwitchLaw, UnswitchedLaw}
pub use Rattle.half_laws.specs.RunLaws.{NothingHashedLaw, HashesLaw, AmortizedHashesLaw, CapacityLaw, BytesLaw, has_reserve}
pub use Rattle.half_laws.specs.RunLaws.{most_held, MovesLaw, moved, SplitLaw, JoinLaw, says_vec, IsAlike, RepliesLaw}
pub use Rattle.half_laws.specs.RunLaws.{outcomes_of}
pub use Rattle.halfbrown.proofs.lemmas.map.Growth.{form_stays, full_len, and_false}
pub use Rattle.halfbrown.proofs.lemmas.run.Runs.{neither, steps_pay_two, table_stays, lead_on, cost_of-append}
pub use Rattle.halfbrown.specs.Pairs.{swap_out}
pub use Rattle.halfbrown.specs.State.{state_with}
