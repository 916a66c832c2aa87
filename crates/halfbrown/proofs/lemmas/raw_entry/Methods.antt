-- What a raw entry is once its pair is written or added, and where a match found it.
use Rattle.halfbrown.specs.Pairs.{IsQuery}
use Rattle.halfbrown.proofs.Common.{◌≡◌, ℕ, ◌<◌, Bool, true, false, length, arith, List, [], ◌∷◌, ◌++◌, slice_get, Option, Some, unwrap_or, refl, ◌∙◌, None}
use Rattle.halfbrown.proofs.Common.{is_some, sym, subst, IfSome, common_steps, length-keys_of, slice_get_cases, IsEquivalence, keys_of, values_of}
use Rattle.halfbrown.proofs.Common.{set_value_at, occupied, entry_value, IsWritten, KeyFoundAt, KeyMissing, holds, State, WithPairs, IsValid}
use Rattle.halfbrown.proofs.Common.{HasPut}
use Rattle.std.proofs.lemmas.Map.Entries.{length-values_of}
use Rattle.std.specs.Borrow.{MutBor}
use Rattle.halfbrown.specs.declared.entry.OccupiedEntry.{OccupiedEntry}
use Rattle.halfbrown.specs.declared.raw_entry.RawEntryMut.{RawEntryMut}
use Rattle.halfbrown.specs.declared.raw_entry.RawEntryMut.TheVariants.{Occupied, Vacant}
use Rattle.halfbrown.specs.Entry.{raw_view}
use Rattle.halfbrown.specs.EntryView.{EntryView, entry_key, entry_pair, map_of, map_with_value}
use Rattle.halfbrown.specs.EntryView.{FindsRawEntry, FindsRawEntryByMatch, PutsEntry, PutsNewEntry}
use Rattle.halfbrown.proofs.lemmas.pairs.Changes.{key_of-pair, value_of-pair, set_value_at-last, value-last, key-last}
use Rattle.halfbrown.proofs.lemmas.entry.Methods.{swap_remove_at-last, held_with_pairs, found_raw, missing_raw}
use Rattle.halfbrown.specs.Lookup.{MatchFoundAt, FindsMatch}
use Rattle.halfbrown.proofs.callers.Pairs.{has_put}
use Rattle.halfbrown.proofs.lemmas.pairs.Indices.{index_of_pair, absent_of_unheld, some_is_not_none}
use Rattle.halfbrown.specs.Ghosts.{EqGhosts, HashGhosts, HasherGhosts, LimitGhosts}

-- the key and the value of a pair that is lent are those of its entry
pub lent_key : {K V : Type 0} (ps : List (K × V)) (i : ℕ) (k key : K) (v : V) → slice_get ps i ≡ Some (k, v)
    → slice_get (keys_of ps) i ≡ Some key → k ≡ key
lent_key ps i k key v at is = grind (arith, common_steps, key_of-pair ps i)

pub lent_value : {K V : Type 0} (ps : List (K × V)) (i : ℕ) (k : K) (v value : V) → slice_get ps i ≡ Some (k, v)
    → slice_get (values_of ps) i ≡ Some value → v ≡ value
lent_value ps i k v value at is = grind (arith, common_steps, value_of-pair ps i)

-- a fact of every value that the option may have
pub if_some : {X : Type 0} {P : X → Type 0} (o : Option X) → ((x : X) → o ≡ Some x → P x) → IfSome o P
if_some None holds = tt
if_some (Some x) holds = holds x refl

-- an element within is there
some_at : {X : Type 0} (xs : List X) (i : ℕ) (d : X) → i < length xs → slice_get xs i ≡ Some (unwrap_or (slice_get xs i) d)
some_at xs i d within = grind (arith, common_steps, slice_get_cases)

pub is_some_within : {X : Type 0} (xs : List X) (i : ℕ) → i < length xs → true ≡ is_some (slice_get xs i)
is_some_within xs i within = grind (arith, common_steps, slice_get_cases)

module _ {K V : Type 0} where
  -- a value that is held already
  set_value_at-held : (ps : List (K × V)) (i : ℕ) (d : V) → set_value_at ps i (unwrap_or (slice_get (values_of ps) i) d) ≡ ps
  set_value_at-held [] i d = refl
  set_value_at-held (p ∷ ps) i d = grind (arith, common_steps, set_value_at-held ps)

  -- a pair that is there, or otherwise another, has its key and its value
  pair_or : (ps : List (K × V)) (i : ℕ) (k : K) (v : V)
      → (unwrap_or (slice_get (keys_of ps) i) k, unwrap_or (slice_get (values_of ps) i) v) ≡ unwrap_or (slice_get ps i) (k, v)
  pair_or ps i k v = grind (arith, common_steps, key_of-pair ps i, value_of-pair ps i)

module _ {K V S L H : Type 0} {e : EqGhosts K} {h : HashGhosts K} {b : HasherGhosts S K H} {l : LimitGhosts L}
    (limit : ℕ) (eq : K → K → Bool) where
  module _ (o : OccupiedEntry K V S L H e h b l) where
    -- the pair has a key
    key_there : (key : K) → entry_key (occupied o) ≡ Some (unwrap_or (entry_key (occupied o)) key)
    key_there key = some_at (keys_of o.map.now.pairs) o.index key (omega (arith, length-keys_of o.map.now.pairs, o.within))

    -- a pair that is found and written is the one that is put
    pub written_puts : (key : K) (value : V) (written : EntryView K V S) → IsWritten (occupied o) value written
        → IsValid limit eq (map_of written) → PutsEntry limit eq (occupied o) key value written
    written_puts key value written is valid = record {
      same_map = is.same_map;
      map = subst (WithPairs o.map.now (set_value_at o.map.now.pairs o.index value)) (sym is.map) (held_with_pairs o key value);
      key_is = is.key ∙ key_there key;
      value_is = is.value_is;
      writes = λ v. subst (WithPairs o.map.now (set_value_at o.map.now.pairs o.index v)) (sym (is.writes v)) (held_with_pairs o key v);
      without = is.without;
      valid = valid;
    }

    -- a pair that is found and left is put with its own value
    pub held_puts : (key : K) (value : V) → IsValid limit eq o.map.now
        → PutsEntry limit eq (occupied o) key (unwrap_or (entry_value (occupied o)) value) (occupied o)
    held_puts key value valid = record {
      same_map = refl;
      map = record { pairs = sym (set_value_at-held o.map.now.pairs o.index value); form = refl; capacity = refl; builder = refl };
      key_is = key_there key;
      value_is = some_at (values_of o.map.now.pairs) o.index value (omega (arith, length-values_of o.map.now.pairs, o.within));
      writes = held_with_pairs o key;
      without = refl;
      valid = valid;
    }

module _ {K V S : Type 0} (limit : ℕ) (eq : K → K → Bool) (prepared map : MutBor (State K V S)) (key : K) (value : V) (index : ℕ)
    (same_map : map.ghost_name ≡ prepared.ghost_name) (last : index ≡ length prepared.now.pairs)
    (after : WithPairs prepared.now (prepared.now.pairs ++ (key, value) ∷ []) map.now) (valid : IsValid limit eq map.now) where
  -- the pair that is appended is the one that is put
  added_puts : PutsEntry limit eq (record { map = prepared; index = None; vacant = None }) key value (record { map = map; index = Some index; vacant = None })
  unfolding map_with_value
  added_puts = grind (arith, common_steps, key-last, set_value_at-last, slice_get, swap_remove_at-last, value-last)

  -- if the key was not held its pair is put
  pub adds_pair : IsEquivalence eq → holds eq prepared.now.pairs key ≡ false
      → PutsNewEntry limit eq (record { map = prepared; index = None; vacant = None }) key value (record { map = map; index = Some index; vacant = None })
  adds_pair laws unheld =
      let absent = absent_of_unheld (eq key) prepared.now.pairs unheld in
      record {
        puts = added_puts;
        put = subst (HasPut eq prepared.now.pairs key value) (absent.put_is key value ∙ sym added_puts.map.pairs)
            (has_put eq laws prepared.now.pairs key value);
        written = λ v. subst (HasPut eq prepared.now.pairs key v) (absent.put_is key v ∙ sym (added_puts.writes v).pairs)
            (has_put eq laws prepared.now.pairs key v);
      }

-- the key and the value that are held once a pair is added if none was found
pub found_or : {K V S L H : Type 0} {e : EqGhosts K} {h : HashGhosts K} {b : HasherGhosts S K H} {l : LimitGhosts L}
    (entry : RawEntryMut K V S L H e h b l) (key : K) (value : V)
    → (unwrap_or (entry_key (raw_view entry)) key, unwrap_or (entry_value (raw_view entry)) value) ≡ unwrap_or (entry_pair (raw_view entry)) (key, value)
found_or (Occupied o) key value = pair_or o.map.now.pairs o.index key value
found_or (Vacant v) key value = refl

module _ {K V S : Type 0} (limit : ℕ) (eq : K → K → Bool) (laws : IsEquivalence eq) (m : MutBor (State K V S)) (valid : IsValid limit eq m.now) where
  -- the raw entry of the key which passes the test
  module _ (test : K → Bool) (one_class : IsQuery eq test) where
    pub finds_held : (index : ℕ) → KeyFoundAt test m.now.pairs index → FindsRawEntry limit eq test m (record { map = m; index = Some index; vacant = None })
    finds_held index at = record { same_map = refl; finds = found_raw eq laws m valid.distinct test one_class index at; valid = valid }

    pub finds_none : KeyMissing test m.now.pairs → FindsRawEntry limit eq test m (record { map = m; index = None; vacant = None })
    finds_none absent = record { same_map = refl; finds = missing_raw eq laws m valid.distinct test one_class absent; valid = valid }

  -- the raw entry of the pair at the index that a match found
  module _ (returns : K → Bool → Type 0) (hash : S → K → ℕ) (wanted index : ℕ) (at : MatchFoundAt returns hash wanted m.now index) where
    reads_match : (found : Option (K × V)) → slice_get m.now.pairs index ≡ found → FindsMatch returns hash wanted m.now found
    reads_match None is = absurd (some_is_not_none m.now.pairs index at.within is)
    reads_match (Some pair) is = (index, is, at)

    pub finds_match : FindsRawEntryByMatch limit eq returns hash wanted m (record { map = m; index = Some index; vacant = None })
    finds_match = record {
      same_map = refl;
      map = refl;
      found = reads_match (slice_get m.now.pairs index) refl;
      entry = if_some (slice_get m.now.pairs index) (λ pair is.
          found_raw eq laws m valid.distinct (eq pair.0) (laws.congr pair.0) index
          (index_of_pair eq laws m.now.pairs index pair valid.distinct is));
      valid = valid;
    }
