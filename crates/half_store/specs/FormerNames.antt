-- The names that the files in `formers` cite, those of the map too, passed on from one place. Declares nothing.
pub use Rattle.std.specs.Map.{values_of, keys_of}
pub use Rattle.std_collections.specs.Layout.Former.{entry, on_value, entries_puts, entries_recoded, values_listed, keys_on_values}
pub use mathlib.Core.Former.{Former, children, const, list, one_more, pair, this, via}
pub use mathlib.Core.Path.{refl, sym, ap, ◌∙◌, subst}
pub use native.Mathlib.Nat.{ℕ_set}
pub use lib.ListN.{length-map}
pub use base.Stored.{gcons, coded_ℕ, coded×, coded_bool, coded_list, Coded-set}
pub use denote.RattleType.{RattleType}
pub use denote.Hole.Carrier.{listed}
pub use denote.Hole.Fix.{over}
pub use denote.HoleLaws.{Alike}
pub use denote.HolePlaces.{Recodes, struct_places, laid}
pub use denote.Model.Placed.{held, view_places_where, view_places}
pub use denote.Param.Weighed.{Weighed, most}
