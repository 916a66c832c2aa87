-- What contracts see of the entry of a key, and of a raw one, by the view of `EntryView`; what makes the entry of a key, and what it lends.
pub use Rattle.halfbrown.specs.declared.entry.Entry.TheVariants.{Occupied, Vacant}
use Rattle.std.specs.Prelude.{◌≡◌, ℕ, Bool, false, Option, None, Some, Result, IsOk, IfOk, IfErr, ◌<◌, [], length, ⊤}
use Rattle.std.specs.Borrow.{MutBor, Fml, RattleType, follows, follows_so, RestsIfErr, RestsIfNone}
use Rattle.halfbrown.specs.Ghosts.{EqGhosts, HashGhosts, HasherGhosts, LimitGhosts}
use Rattle.half_store.specs.PairLists.{length-set_value_at}
use Rattle.halfbrown.specs.declared.entry.Entry.{Entry}
use Rattle.halfbrown.specs.declared.entry.OccupiedEntry.{OccupiedEntry}
use Rattle.halfbrown.specs.declared.entry.VacantEntry.{VacantEntry}
use Rattle.halfbrown.specs.declared.raw_entry.RawEntryMut.{RawEntryMut}
use Rattle.halfbrown.specs.declared.raw_entry.RawEntryMut.TheVariants as raw
use Rattle.halfbrown.specs.declared.raw_entry.RawVacantEntryMut.{RawVacantEntryMut}
use Rattle.halfbrown.specs.declared.refused.RefusedKey.{RefusedKey}
use Rattle.halfbrown.specs.EntryView.{EntryView, map_of, is_occupied, entry_key, map_with_value, IsEntryOf, PutsThroughEntry}
use Rattle.halfbrown.specs.Growth.{capacity_for_insert, IsRefusal}
use Rattle.halfbrown.specs.Insertion.{Prepares}
use Rattle.halfbrown.specs.State.{State, IsValid, IsPlacedIn}
use Rattle.std.proofs.Common.{sym, subst}
use mathlib.Core.Option.{none}
use mir.Syntax.{named}
use Rattle.halfbrown.specs.contracts.map.LimitedHashMap.{the_row}
use Rattle.halfbrown.specs.contracts.entry.OccupiedEntry as entries

-- a refused entry that needed this much capacity: the key comes back with the reason
pub record HandsBackKey {K : Type 0} (k : K) (needed : Option ℕ) (refused : RefusedKey K) : Type 0 where
  pub why : IsRefusal needed refused.why
  pub key : refused.key ≡ k

module _ {K V S L H : Type 0} {e : EqGhosts K} {h : HashGhosts K} {b : HasherGhosts S K H} {l : LimitGhosts L} where
  -- the view of an occupied entry
  abbrev pub occupied : OccupiedEntry K V S L H e h b l → EntryView K V S
  occupied o = record { map = o.map; index = Some o.index; vacant = None }

  -- the view of the vacant entry of a key
  abbrev pub vacant : VacantEntry K V S L H e h b l → EntryView K V S
  vacant v = record { map = v.map; index = None; vacant = Some (v.key, v.vacancy) }

  -- the view of a vacant raw entry
  abbrev pub raw_vacant : RawVacantEntryMut K V S L H e h b l → EntryView K V S
  raw_vacant v = record { map = v.map; index = None; vacant = None }

  -- the reference to the map
  abbrev pub map_ref : Entry K V S L H e h b l → MutBor (State K V S)
  map_ref (Occupied o) = o.map
  map_ref (Vacant v) = v.map

  -- by its variant
  abbrev pub variant_view : Entry K V S L H e h b l → EntryView K V S
  variant_view (Occupied o) = occupied o
  variant_view (Vacant v) = vacant v

  -- an entry as clauses see it: its key, its pair if it has one, and its map
  abbrev pub view : Entry K V S L H e h b l → EntryView K V S
  view entry = record (variant_view entry) { map = map_ref entry }

  -- the view of a raw entry
  abbrev pub raw_view : RawEntryMut K V S L H e h b l → EntryView K V S
  raw_view (raw.Occupied o) = occupied o
  raw_view (raw.Vacant v) = raw_vacant v

  -- what `entry` returns for k: if it is granted, the entry of k, in the map with capacity for its pair (a full vector is a table now);
  -- if it is refused the key and the reason
  pub record MakesEntryOrHandsBack (limit : ℕ) (eq : K → K → Bool) (m : MutBor (State K V S)) (k : K) (result : Result (Entry K V S L H e h b l) (RefusedKey K)) : Type 0 where
    pub same_map : IfOk result (λ entry. (view entry).map.ghost_name ≡ m.ghost_name)
    pub entry : IfOk result (λ entry. IsEntryOf eq (eq k) m.now.pairs (view entry))
    pub new_key : IfOk result (λ entry. is_occupied (view entry) ≡ false → entry_key (view entry) ≡ Some k)
    pub writes : IfOk result (λ entry. PutsThroughEntry limit eq m.now k (view entry))
    pub prepares : IfOk result (λ entry. Prepares limit m.now (capacity_for_insert limit eq m.now k) (map_of (view entry)))
    pub succeeds : capacity_for_insert limit eq m.now k ≡ None → IsOk result
    pub returned : IfErr result (HandsBackKey k (capacity_for_insert limit eq m.now k))
    pub valid : IfOk result (λ entry. IsValid limit eq (map_of (view entry)))

  pub still_within : (o : OccupiedEntry K V S L H e h b l) (value : V) → o.index < length (map_with_value (occupied o) value).pairs
  unfolding map_with_value
  still_within o value = subst (λ n. o.index < n) (sym (length-set_value_at o.map.now.pairs o.index value)) o.within

  pub still_placed : (o : OccupiedEntry K V S L H e h b l) (value : V)
      → IsPlacedIn (map_with_value (occupied o) value) (record { index = o.index; bucket = o.bucket })
  unfolding map_with_value
  still_placed o value = o.placed

  -- the entry, once this value is written
  abbrev pub with_entry_value : OccupiedEntry K V S L H e h b l → V → OccupiedEntry K V S L H e h b l
  with_entry_value o value = record { map = record o.map { now = map_with_value (occupied o) value }; index = o.index; bucket = o.bucket; within = still_within o value; placed = still_placed o value }

module _ (K V S L H : RattleType) {e : EqGhosts K.Denot} {h : HashGhosts K.Denot} {b : HasherGhosts S.Denot K.Denot H.Denot} {l : LimitGhosts L.Denot} where
  -- the map has the last value written through the reference, for the entry's key
  abbrev pub EntryLendsValue : Entry K.Denot V.Denot S.Denot L.Denot H.Denot e h b l → MutBor V.Denot → Fml
  EntryLendsValue entry r = follows (the_row K V S L H e h b l) V (map_ref entry).ghost_name r.ghost_name (map_with_value (view entry))

  -- if no entry was made the map is as it was, and otherwise it ends as the entry's map does
  abbrev pub RestsIfRefused : {E : Type 0} → MutBor (State K.Denot V.Denot S.Denot) → Result (Entry K.Denot V.Denot S.Denot L.Denot H.Denot e h b l) E → Fml
  RestsIfRefused m r = RestsIfErr (the_row K V S L H e h b l) m (λ entry. (map_ref entry).ghost_name) r (λ n. n ≡ m.now)

  -- if there is no entry the map is as it was, and otherwise it ends as the entry's map does
  abbrev pub RestsIfNoEntry : MutBor (State K.Denot V.Denot S.Denot) → Option (OccupiedEntry K.Denot V.Denot S.Denot L.Denot H.Denot e h b l) → Fml
  RestsIfNoEntry m r = RestsIfNone (the_row K V S L H e h b l) m (λ o. o.map.ghost_name) r (λ n. n ≡ m.now)

  -- the entry has the last value written through the reference
  abbrev pub OccupiedLends : MutBor (OccupiedEntry K.Denot V.Denot S.Denot L.Denot H.Denot e h b l) → MutBor V.Denot → Fml
  OccupiedLends o r = follows (entries.the_row (record { mir = named 1; lft = [] }) K V S L H e h b l) V o.ghost_name r.ghost_name (with_entry_value o.now)

  -- the entry stays as it is
  abbrev pub OccupiedRests : MutBor (OccupiedEntry K.Denot V.Denot S.Denot L.Denot H.Denot e h b l) → Fml
  OccupiedRests o =
      let row = entries.the_row (record { mir = named 1; lft = [] }) K V S L H e h b l in
      follows_so row row o.ghost_name none (λ x n. ⊤) (λ n. n ≡ o.now)
