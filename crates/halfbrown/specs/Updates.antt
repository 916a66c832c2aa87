-- What a put and a removal leave, by what each key has then; and what calls that remove a pair return.
use Rattle.std.specs.Prelude.{◌≡◌, ℕ, ◌+◌, ◌^◌, ◌<◌, Bool, true, false, List, [], ◌∷◌, ◌++◌, length, Some, None, if◌then◌else◌, Option, IfSome, IfNone, OnSome, slice_get, option_map, remove}
use Rattle.std.specs.Map.{keys_of, values_of, lookup}
use Rattle.halfbrown.specs.Pairs.{swap_remove_at, value_of, stored_pair_of, holds, holds_by, set_values, swap_out_by, shift_out_by}
use Rattle.halfbrown.specs.State.{State, IsValid, map_with_pairs, WithPairs}

-- whatever values are written into the pairs of a map: it has as many pairs, fewer than 2^63, with the same keys, and these values if there
-- are as many; and `IsValid` still holds
pub record WrittenValuesKeepKeys {K V S : Type 0} (limit : ℕ) (eq : K → K → Bool) (old : State K V S) : Type 0 where
  pub small : length old.pairs < 2 ^ 63
  pub len : (vs : List V) → length (set_values old.pairs vs) ≡ length old.pairs
  pub keys : (vs : List V) → keys_of (set_values old.pairs vs) ≡ keys_of old.pairs
  pub values : (vs : List V) → length vs ≡ length old.pairs → values_of (set_values old.pairs vs) ≡ vs
  pub valid : (vs : List V) → IsValid limit eq (map_with_pairs old (set_values old.pairs vs))

module _ {K V : Type 0} (eq : K → K → Bool) where
  -- after the pair (k, v) is put: k is held with the value v, as are its equals; each other key has what it had; there is one pair more
  -- exactly if k was not held, and its key is the last
  pub record HasPut (old : List (K × V)) (k : K) (v : V) (new : List (K × V)) : Type 0 where
    pub held : holds eq new k ≡ true
    pub value : value_of eq new k ≡ Some v
    pub equals : (q : K) → eq k q ≡ true → value_of eq new q ≡ Some v
    pub others : (q : K) → eq k q ≡ false → value_of eq new q ≡ value_of eq old q
    pub len : length new ≡ (if holds eq old k then length old else length old + 1)
    pub keys : keys_of new ≡ (if holds eq old k then keys_of old else keys_of old ++ k ∷ [])

  -- after the held key that passes the test is given the value v: it has v, as have its equals; each other key has what it had; there are
  -- as many pairs, with the same keys
  pub record HasSetBy (test : K → Bool) (old : List (K × V)) (v : V) (new : List (K × V)) : Type 0 where
    pub held : holds_by test new ≡ true
    pub value : lookup test new ≡ Some v
    pub equals : (q : K) → test q ≡ true → value_of eq new q ≡ Some v
    pub others : (q : K) → test q ≡ false → value_of eq new q ≡ value_of eq old q
    pub len : length new ≡ length old
    pub keys : keys_of new ≡ keys_of old

  -- after the pair whose key passes the test is removed: no such key is held; each key that fails it has what it had; there is one pair
  -- fewer exactly if one was held
  pub record HasRemovedBy (test : K → Bool) (old new : List (K × V)) : Type 0 where
    pub not_held : holds_by test new ≡ false
    pub no_value : lookup test new ≡ None
    pub equals : (q : K) → test q ≡ true → value_of eq new q ≡ None
    pub others : (q : K) → test q ≡ false → value_of eq new q ≡ value_of eq old q
    pub len : length old ≡ (if holds_by test old then length new + 1 else length new)

  -- after the pair of k is removed: no equal key is held; each other key has what it had; there is one pair fewer exactly if k was held
  abbrev pub HasRemoved : List (K × V) → K → List (K × V) → Type 0
  HasRemoved old k new = HasRemovedBy (eq k) old new

  -- after the stored key that equals k is replaced by k: the pair of k is k with the value that it had; each key has the value that it had;
  -- each other key has the pair that it had; there are as many pairs, and their values are in the same order
  pub record HasKeyReplaced (old : List (K × V)) (k : K) (new : List (K × V)) : Type 0 where
    pub pair : stored_pair_of eq new k ≡ option_map (λ v. (k, v)) (value_of eq old k)
    pub values : (q : K) → value_of eq new q ≡ value_of eq old q
    pub others : (q : K) → eq k q ≡ false → stored_pair_of eq new q ≡ stored_pair_of eq old q
    pub len : length new ≡ length old
    pub order : values_of new ≡ values_of old

-- a removal of the pair whose key passes the test: it returns `found`, the value or the pair of that key, and the last pair takes the free
-- index; or no such key is held, and nothing changes
pub record SwapRemoves {K V S R : Type 0} (limit : ℕ) (eq : K → K → Bool) (test : K → Bool) (old : State K V S) (found result : Option R) (new : State K V S) : Type 0 where
  pub returned : result ≡ found
  pub after : WithPairs old (swap_out_by test old.pairs) new
  pub removed : HasRemovedBy eq test old.pairs new.pairs
  pub unchanged : IfNone result (new ≡ old)
  pub valid : IsValid limit eq new

-- a removal of the pair at this index returns it, and the last pair takes its index: no key equal to its own is held then; or there is
-- none, and nothing changes
pub record SwapRemovesAt {K V S : Type 0} (limit : ℕ) (eq : K → K → Bool) (old : State K V S) (index : ℕ) (result : Option (K × V)) (new : State K V S) : Type 0 where
  pub returned : result ≡ slice_get old.pairs index
  pub after : OnSome result (WithPairs old (swap_remove_at old.pairs index) new)
  pub removed : IfSome result (λ pair. HasRemoved eq old.pairs pair.0 new.pairs)
  pub unchanged : IfNone result (new ≡ old)
  pub valid : IsValid limit eq new

-- a removal of the pair whose key passes the test returns this of it, and each pair behind it gets the index before its own; or there is
-- none, and nothing changes
pub record ShiftRemoves {K V S R : Type 0} (limit : ℕ) (eq : K → K → Bool) (test : K → Bool) (old : State K V S) (found result : Option R) (new : State K V S) : Type 0 where
  pub returned : result ≡ found
  pub after : WithPairs old (shift_out_by test old.pairs) new
  pub removed : HasRemovedBy eq test old.pairs new.pairs
  pub unchanged : IfNone result (new ≡ old)
  pub valid : IsValid limit eq new

-- the same of the pair at this index: no key equal to its own is held then
pub record ShiftRemovesAt {K V S : Type 0} (limit : ℕ) (eq : K → K → Bool) (old : State K V S) (index : ℕ) (result : Option (K × V)) (new : State K V S) : Type 0 where
  pub returned : result ≡ slice_get old.pairs index
  pub after : OnSome result (WithPairs old (remove old.pairs index) new)
  pub removed : IfSome result (λ pair. HasRemoved eq old.pairs pair.0 new.pairs)
  pub unchanged : IfNone result (new ≡ old)
  pub valid : IsValid limit eq new
