-- The names that most proofs cite, passed on from one place. Declares nothing.
pub use Rattle.halfbrown.proofs.Common.{◌≡◌, ℕ, List, [], ◌∷◌, Option, None, Some, slice_get, refl, sym, ap, ◌∙◌, arith, rules}
pub use Rattle.halfbrown.proofs.Common.{Bor, true, subst, zero, suc, not, Bool, false, cond, ◌++◌, ◌<◌, length, inl, inr}
pub use Rattle.halfbrown.proofs.Common.{common_steps, values_of, ◌≤◌, get_or, get_or_default, slice_get-map, result_ok, is_some}
pub use Rattle.halfbrown.proofs.Common.{map, map-append, put, set_value, State, ◌+◌, take, take_more, keys_of}
pub use Rattle.std.proofs.Common.{◌≢◌, OnSome, Vec, Result, Ok, Err, IfErr, IsErrAnd, ◌==◌, option_and_then, true≢false}
pub use Rattle.std.proofs.Common.{slice_set, ◌^◌, eq-eqb, eqb-true, ne_eqb, slice_index, append-nil, length-drop, ◌↔◌, drop}
pub use Rattle.std.specs.Option.{MatchOption, option_copied, option_map_or, option_eq}
pub use Rattle.json_value.specs.Pointer.{children, descendant, place, put_at, put_child, put_steps, steps_of, value_at}
pub use Rattle.json_value.specs.Pointer.{with_child, child, index_of, member_place, name_of, is_plain, paths_differ}
pub use Rattle.json_value.specs.Pointer.{steps_differ, Part, PathsPart, name_after_tilde}
pub use Rattle.json_value.specs.declared.value.Value.{Value, the_lemmas}
pub use Rattle.json_value.specs.Members.{is_object, PutsFirst, IsRefusedMerge, by_kind_in, is_named}
pub use Rattle.json_value.specs.declared.value.Value.TheViews.{Object, out-Value}
pub use Rattle.json_value.specs.declared.value.error.Error.TheVariants.{Memory}
pub use Rattle.std.proofs.lemmas.Bool.Decides.{nat_tests}
pub use Rattle.std.proofs.lemmas.List.Splits.{length-slice_split, slice_split_at, slice_split_none}
pub use Rattle.std.specs.List.{onto_first, slice_split, All, flat_map}
pub use Rattle.std.specs.Str.{bytes_eq, all_ascii_digits}
pub use Rattle.std.specs.String.{string_bytes, string_eq}
pub use Rattle.std.proofs.lemmas.Option.{gets}
pub use Rattle.halfbrown.specs.Pairs.{set_value_at}
pub use Rattle.std.specs.Map.Iter.{deref_pair}
pub use Rattle.halfbrown.specs.Collect.{put_all, collected}
pub use Rattle.json.specs.Json.{Json, item, array, object, document, if_last, max_depth, value}
pub use Rattle.json.specs.Value.{value_view, items_view, members_view, items_of}
pub use Rattle.json_value.specs.Json.{json_of, merged, merged_items, merged_values}
pub use Rattle.std.proofs.lemmas.List.{append_assoc, flat_map_more, take_all, drop_all, nil_from_length, map-id}
pub use Rattle.json.specs.Tree.{json_tokens, items_tokens, members_tokens, depth, items_depth, members_depth, HasNumbers}
pub use Rattle.json.specs.Tree.{ItemsHaveNumbers, MembersHaveNumbers}
pub use Rattle.halfbrown.specs.Iter.{pairs_left}
pub use Rattle.std.proofs.lemmas.Str.Pattern.{strip_prefix_char, split_parts, contains_char}
