-- What contracts see of the calls that make a raw entry, and what those of a raw entry lend and cost.
use Rattle.std.specs.Map.{lookup, lookup_entry}
use Rattle.std.specs.Prelude.{◌≡◌, ℕ, Bool, Option, None, Some, IsSomeAnd, ◌<◌, length, Result, IsOk, IfOk, IfErr, if◌then◌else◌, option_map}
use Rattle.std.specs.Borrow.{Bor, MutBor, Fml, RattleType, RestsIfErr}
use Rattle.std.specs.Fn.{Once}
use Rattle.halfbrown.specs.Ghosts.{EqGhosts, HashGhosts, HasherGhosts, LimitGhosts}
use Rattle.half_store.specs.Work.{looked_more, Work, asked_more}
use Rattle.halfbrown.specs.Costs.{miss_reads, search_asked}
use Rattle.halfbrown.specs.EntryView.{EntryView, map_of, is_occupied}
use Rattle.halfbrown.specs.State.{State, IsValid}
use Rattle.std.specs.Map.Iter.{deref_pair}
use Rattle.halfbrown.specs.declared.raw_entry.RawEntryBuilder.{RawEntryBuilder}
use Rattle.halfbrown.specs.declared.raw_entry.RawEntryBuilderMut.{RawEntryBuilderMut}
use Rattle.halfbrown.specs.declared.raw_entry.RawEntryBuilderMut.TheVariants.{Prepared}
use Rattle.halfbrown.specs.contracts.map.LimitedHashMap.{the_row}
use Rattle.halfbrown.specs.Growth.{capacity_for_new_key, Refusal, IsRefusal}
use Rattle.halfbrown.specs.Insertion.{Prepares}

-- the map that is searched
abbrev pub searched_map : {K V S L H : Type 0} → RawEntryBuilder K V S L H → State K V S
searched_map builder = builder.map.now

module _ {K V S L H : Type 0} {e : EqGhosts K} {h : HashGhosts K} {b : HasherGhosts S K H} {l : LimitGhosts L} where
  -- the reference to the map with capacity for one pair more
  abbrev pub prepared_map_ref : RawEntryBuilderMut K V S L H e h b l → MutBor (State K V S)
  prepared_map_ref (Prepared prepared) = prepared.map

  -- that map, as it is
  abbrev pub prepared_map : RawEntryBuilderMut K V S L H e h b l → State K V S
  prepared_map builder = (prepared_map_ref builder).now

module _ {F K V R : Type 0} (g : Once F (Bor K × (MutBor V × Unit {0})) (R × (MutBor V × Unit {0}))) (f : F) where
  -- a call of f at a `&` to the key and a `&mut` to the value may leave w there
  pub record MayLeaveValue (pair : K × V) (w : V) : Type 0 where
    pub key : Bor K
    pub lent : MutBor V
    pub result : R
    pub left : MutBor V
    pub shows : (key.now, lent.now) ≡ pair
    pub met : g.post f (key, (lent, tt)) (result, (left, tt))
    pub after : left.now ≡ w

  -- no pair was found and none is, or f changed the value of the one that was
  abbrev pub ModifiesPair : Option (K × V) → Option V → Type 0
  ModifiesPair None new = new ≡ None
  ModifiesPair (Some pair) new = IsSomeAnd new (MayLeaveValue pair)

module _ {K V S : Type 0} (hash : S → K → ℕ) (m : State K V S) where
  -- after one insertion probe for this hash
  abbrev pub work_after_probe : ℕ → Work → Work
  work_after_probe wanted before = looked_more (miss_reads (hash m.builder) m.is_vec m.capacity m.pairs wanted) before

  -- after the key was hashed, in a table, and one insertion probe made for it
  abbrev pub work_after_adding : K → Work → Work
  work_after_adding key before = work_after_probe (hash m.builder key) (asked_more (search_asked m.is_vec) before)

-- after a pair of this key was put through the entry: nothing if it has a pair
abbrev pub work_after_putting : {K V S : Type 0} → (S → K → ℕ) → EntryView K V S → K → Work → Work
work_after_putting hash entry key before = if is_occupied entry then before else work_after_adding hash (map_of entry) key before

-- the stored pair of the key that passes the test is lent, to be read
pub record FindsPair {K V S : Type 0} (test : K → Bool) (m : State K V S) (lent : Option (Bor K × Bor V)) : Type 0 where
  pub pair : option_map deref_pair lent ≡ lookup_entry test m.pairs
  pub value : option_map (λ pair. pair.1.now) lent ≡ lookup test m.pairs

module _ {K V S L H : Type 0} {e : EqGhosts K} {h : HashGhosts K} {b : HasherGhosts S K H} {l : LimitGhosts L} (limit : ℕ) (eq : K → K → Bool) where
  -- what `raw_entry_mut` returns: if it is granted the same map, with capacity for one pair more; if it is refused the reason
  pub record PreparesRawEntries (m : MutBor (State K V S)) (result : Result (RawEntryBuilderMut K V S L H e h b l) Refusal) : Type 0 where
    pub same_map : IfOk result (λ prepared. (prepared_map_ref prepared).ghost_name ≡ m.ghost_name)
    pub prepares : IfOk result (λ prepared. Prepares limit m.now (capacity_for_new_key limit m.now) (prepared_map prepared))
    pub capacity : IfOk result (λ prepared. length (prepared_map prepared).pairs < (prepared_map prepared).capacity)
    pub succeeds : capacity_for_new_key limit m.now ≡ None → IsOk result
    pub refused : IfErr result (IsRefusal (capacity_for_new_key limit m.now))
    pub valid : IfOk result (λ prepared. IsValid limit eq (prepared_map prepared))

module _ (K V S L H : RattleType) {e : EqGhosts K.Denot} {h : HashGhosts K.Denot} {b : HasherGhosts S.Denot K.Denot H.Denot} {l : LimitGhosts L.Denot} where
  -- if the capacity was refused the map is as it was
  abbrev pub RestsIfUnprepared : {E : Type 0} → MutBor (State K.Denot V.Denot S.Denot) → Result (RawEntryBuilderMut K.Denot V.Denot S.Denot L.Denot H.Denot e h b l) E → Fml
  RestsIfUnprepared m r = RestsIfErr (the_row K V S L H e h b l) m (λ prepared. (prepared_map_ref prepared).ghost_name) r (λ n. n ≡ m.now)
