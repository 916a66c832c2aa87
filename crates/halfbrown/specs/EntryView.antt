-- What contracts see of an entry, of a key, at an index or a raw one: its pair, and what the map is once that is written, added or taken out.
use Rattle.std.specs.Prelude.{◌≡◌, ℕ, Bool, true, false, List, [], ◌∷◌, ◌++◌, slice_get, Option, None, Some, IfSome, is_some, unwrap_or}
use Rattle.std.specs.Borrow.{MutBor}
use Rattle.std.specs.Map.{keys_of, values_of, lookup, lookup_entry}
use Rattle.std.specs.Option.{option_and_then, option_map, option_map_or}
use Rattle.halfbrown.specs.Growth.{capacity_for_insert}
use Rattle.halfbrown.specs.Insertion.{Puts, pushed}
use Rattle.halfbrown.specs.Lookup.{Vacancy, FindsMatch}
use Rattle.halfbrown.specs.Pairs.{set_key_at, set_value_at, swap_remove_at, holds, holds_by, set_value, put_by, swap_out_by}
use Rattle.halfbrown.specs.State.{State, IsValid, WithPairs, map_with_pairs}
use Rattle.halfbrown.specs.Updates.{HasPut, HasSetBy, HasRemovedBy}

-- the reference to the map, the index of the entry's pair, if it has one, and of the vacant entry of a key that key and where its pair goes
pub record EntryView (K V S : Type 0) : Type 0 where
  pub map : MutBor (State K V S)
  pub index : Option ℕ
  pub vacant : Option (K × Vacancy)

module _ {K V S : Type 0} where
  -- the map, as it is
  abbrev pub map_of : EntryView K V S → State K V S
  map_of entry = entry.map.now

  -- whether the entry has a pair: its key is held, or a pair was found
  abbrev pub is_occupied : EntryView K V S → Bool
  is_occupied entry = is_some entry.index

  -- the stored pair, if it has one
  abbrev pub entry_pair : EntryView K V S → Option (K × V)
  entry_pair entry = option_and_then (slice_get (map_of entry).pairs) entry.index

  -- the value, if it has a pair
  abbrev pub entry_value : EntryView K V S → Option V
  entry_value entry = option_and_then (slice_get (values_of (map_of entry).pairs)) entry.index

  -- the stored key, if it has a pair, otherwise the key of the pair that can be added; a vacant raw entry has none
  abbrev pub entry_key : EntryView K V S → Option K
  entry_key entry = option_map_or (slice_get (keys_of (map_of entry).pairs)) entry.index (option_map (λ new. new.0) entry.vacant)

  -- the map once the entry's key has this value; a vacant raw entry writes nothing
  unfoldable pub map_with_value : EntryView K V S → V → State K V S
  map_with_value entry value = option_map_or (λ index. map_with_pairs (map_of entry) (set_value_at (map_of entry).pairs index value)) entry.index
      (option_map_or (λ new. pushed (map_of entry) new.0 value new.1) entry.vacant (map_of entry))

  -- the pairs once the entry's pair has this value; only if it has none the key matters, whose pair is then appended
  abbrev pub pairs_with_value : EntryView K V S → K → V → List (K × V)
  pairs_with_value entry key value = option_map_or (λ index. set_value_at (map_of entry).pairs index value) entry.index ((map_of entry).pairs ++ (key, value) ∷ [])

  -- the pairs once the entry's pair is taken out
  abbrev pub pairs_without : EntryView K V S → List (K × V)
  pairs_without entry = option_map_or (swap_remove_at (map_of entry).pairs) entry.index (map_of entry).pairs

  -- a pair of this key may be put through the entry: if it has no pair, no equal key is held
  abbrev pub AdmitsKey : (K → K → Bool) → EntryView K V S → K → Type 0
  AdmitsKey eq entry key = is_occupied entry ≡ false → holds eq (map_of entry).pairs key ≡ false

  -- the entry is that of the key which passes the test, among these pairs
  pub record IsEntryOf (eq : K → K → Bool) (test : K → Bool) (pairs : List (K × V)) (entry : EntryView K V S) : Type 0 where
    pub occupied : is_occupied entry ≡ holds_by test pairs
    pub pair : entry_pair entry ≡ lookup_entry test pairs
    pub value : entry_value entry ≡ lookup test pairs
    pub stored_key : is_occupied entry ≡ true → entry_key entry ≡ option_map (λ p. p.0) (lookup_entry test pairs)
    pub equal : IfSome (entry_key entry) (λ k. test k ≡ true)
    pub takes : pairs_without entry ≡ swap_out_by test pairs
    pub removed : HasRemovedBy eq test pairs (pairs_without entry)

  -- whatever value is written through the entry of k, the map is the old one with that value put for k, as by an insertion
  pub record PutsThroughEntry (limit : ℕ) (eq : K → K → Bool) (old : State K V S) (k : K) (entry : EntryView K V S) : Type 0 where
    pub puts : (value : V) → Puts limit eq old k value (capacity_for_insert limit eq old k) (map_with_value entry value)
    pub put : (value : V) → HasPut eq old.pairs k value (map_with_value entry value).pairs

  -- a raw entry is that of the key which passes the test, in this map: and what the pairs are once one is put through it
  pub record IsRawEntryOf (eq : K → K → Bool) (test : K → Bool) (m : State K V S) (raw : EntryView K V S) : Type 0 where
    pub map : map_of raw ≡ m
    pub entry : IsEntryOf eq test m.pairs raw
    pub puts : (k : K) (v : V) → pairs_with_value raw k v ≡ put_by test m.pairs k v
    pub put : (k : K) (v : V) → test k ≡ true → HasPut eq m.pairs k v (pairs_with_value raw k v)
    pub writes : is_occupied raw ≡ true → (v : V) → WithPairs m (set_value test m.pairs v) (map_with_value raw v)
    pub written : is_occupied raw ≡ true → (v : V) → HasSetBy eq test m.pairs v (map_with_value raw v).pairs

  -- the entry is the same one, and this value has been written
  pub record IsWritten (entry : EntryView K V S) (value : V) (written : EntryView K V S) : Type 0 where
    pub same_map : written.map.ghost_name ≡ entry.map.ghost_name
    pub map : map_of written ≡ map_with_value entry value
    pub value_is : entry_value written ≡ Some value
    pub key : entry_key written ≡ entry_key entry
    pub writes : (v : V) → map_with_value written v ≡ map_with_value entry v
    pub without : pairs_without written ≡ pairs_without entry

  -- the entry is the same one, whatever value its pair has: a write and a removal through it leave the same
  pub record SameEntry (entry same : EntryView K V S) : Type 0 where
    pub same_map : same.map.ghost_name ≡ entry.map.ghost_name
    pub found : is_occupied same ≡ is_occupied entry
    pub key : entry_key same ≡ entry_key entry
    pub writes : (value : V) → map_with_value same value ≡ map_with_value entry value
    pub puts : (key : K) (value : V) → pairs_with_value same key value ≡ pairs_with_value entry key value
    pub without : pairs_without same ≡ pairs_without entry

  -- a call on the value of the entry's pair, and none if it has none: the entry is the same one, and its pair has the value that was left
  pub record ModifiesEntry (modifies : Option V → Type 0) (entry modified : EntryView K V S) : Type 0 where
    pub value : modifies (entry_value modified)
    pub occupied : IfSome (entry_value modified) (λ value. map_of modified ≡ map_with_value entry value)
    pub pairs : (key : K) → IfSome (entry_value modified) (λ value. WithPairs (map_of entry) (pairs_with_value entry key value) (map_of modified))
    pub vacant : entry_value entry ≡ None → map_of modified ≡ map_of entry
    pub same : SameEntry entry modified

  -- the entry is that of the pair at this index
  pub record IsEntryAt (m : MutBor (State K V S)) (index : ℕ) (entry : EntryView K V S) : Type 0 where
    pub same_map : entry.map.ghost_name ≡ m.ghost_name
    pub map : map_of entry ≡ m.now
    pub pair : entry_pair entry ≡ slice_get m.now.pairs index
    pub writes : (value : V) → map_with_value entry value ≡ map_with_pairs m.now (set_value_at m.now.pairs index value)
    pub takes : pairs_without entry ≡ swap_remove_at m.now.pairs index

  -- the entry is the same one, and its pair has this key
  pub record HasEntryKeyReplaced (entry : EntryView K V S) (key : K) (rekeyed : EntryView K V S) : Type 0 where
    pub same_map : rekeyed.map.ghost_name ≡ entry.map.ghost_name
    pub map : IfSome entry.index (λ index. WithPairs (map_of entry) (set_key_at (map_of entry).pairs index key) (map_of rekeyed))
    pub key_is : entry_key rekeyed ≡ Some key
    pub value : entry_value rekeyed ≡ entry_value entry
    pub without : pairs_without rekeyed ≡ pairs_without entry

  module _ (limit : ℕ) (eq : K → K → Bool) where
    -- the entry's pair has this value, or, if it has none, the pair of this key is added; the result is its entry, in a map that is whole
    pub record PutsEntry (entry : EntryView K V S) (key : K) (value : V) (result : EntryView K V S) : Type 0 where
      pub same_map : result.map.ghost_name ≡ entry.map.ghost_name
      pub map : WithPairs (map_of entry) (pairs_with_value entry key value) (map_of result)
      pub key_is : entry_key result ≡ Some (unwrap_or (entry_key entry) key)
      pub value_is : entry_value result ≡ Some value
      pub writes : (v : V) → WithPairs (map_of entry) (pairs_with_value entry key v) (map_with_value result v)
      pub without : pairs_without result ≡ pairs_without entry
      pub valid : IsValid limit eq (map_of result)

    -- the pair of this key, which was not held, is put and so added, and has what is written to it
    pub record PutsNewEntry (entry : EntryView K V S) (key : K) (value : V) (result : EntryView K V S) : Type 0 where
      pub puts : PutsEntry entry key value result
      pub put : HasPut eq (map_of entry).pairs key value (map_of result).pairs
      pub written : (v : V) → HasPut eq (map_of entry).pairs key v (map_with_value result v).pairs

    -- the raw entry is that of the key which passes the test, in the prepared map
    pub record FindsRawEntry (test : K → Bool) (prepared : MutBor (State K V S)) (entry : EntryView K V S) : Type 0 where
      pub same_map : entry.map.ghost_name ≡ prepared.ghost_name
      pub finds : IsRawEntryOf eq test prepared.now entry
      pub valid : IsValid limit eq (map_of entry)

    -- the raw entry is that of a pair which the match accepts, under this hash, in the prepared map
    pub record FindsRawEntryByMatch (returns : K → Bool → Type 0) (hash : S → K → ℕ) (wanted : ℕ) (prepared : MutBor (State K V S)) (raw : EntryView K V S) : Type 0 where
      pub same_map : raw.map.ghost_name ≡ prepared.ghost_name
      pub map : map_of raw ≡ prepared.now
      pub found : FindsMatch returns hash wanted prepared.now (entry_pair raw)
      pub entry : IfSome (entry_pair raw) (λ pair. IsRawEntryOf eq (eq pair.0) prepared.now raw)
      pub valid : IsValid limit eq (map_of raw)
