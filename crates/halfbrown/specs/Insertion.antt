-- What an insertion does or hands back, and the capacity for one pair more that it makes first.
use Rattle.std.specs.Prelude.{◌≡◌, ℕ, Bool, Option, Some, None, Result, OnOk, OnErr, IsOk, IfOk, IfErr, ◌+◌, ◌<◌, nat_lt, length, if◌then◌else◌}
use Rattle.std.specs.Result.{result_map_both}
use Rattle.halfbrown.specs.declared.refused.Refused.{Refused}
use Rattle.halfbrown.specs.Growth.{is_vec_after, capacity_for_insert, capacity_for_new_key, Refusal, IsRefusal, IsGrantable, capacity_after, KeepsPairs}
use Rattle.halfbrown.specs.Pairs.{keys_of, index_of, put, value_of}
use Rattle.halfbrown.specs.State.{State, IsValid, state_in, store_in, IsPlacedIn, IsVacancyIn}
use Rattle.halfbrown.specs.Updates.{HasPut}
use Rattle.half_store.specs.Capacity.{least_table_capacity}
use Rattle.half_store.specs.Store.{store_pushed}
use Rattle.halfbrown.specs.declared.map.prepare.Place.{Place}
use Rattle.halfbrown.specs.declared.map.prepare.Place.TheVariants.{Held, Vacant}
use Rattle.halfbrown.specs.Costs.{miss_reads}
use Rattle.halfbrown.specs.Lookup.{Vacancy, KeyFoundAt, KeyMissing}

module _ {K V S : Type 0} where
  -- a granted insertion of (k, v) that needed this much capacity: the pair is put, and a full vector has become a table
  pub record Puts (limit : ℕ) (eq : K → K → Bool) (old : State K V S) (k : K) (v : V) (needed : Option ℕ) (new : State K V S) : Type 0 where
    pub pairs : new.pairs ≡ put eq old.pairs k v
    pub form : new.is_vec ≡ is_vec_after limit old
    pub capacity : new.capacity ≡ capacity_after limit (is_vec_after limit old) old.capacity needed
    pub grantable : IsGrantable needed
    pub builder : new.builder ≡ old.builder

  -- a refused insertion of (k, v) that needed this much capacity: key and value come back with the reason, and nothing has changed
  pub record HandsBack (old : State K V S) (k : K) (v : V) (needed : Option ℕ) (new : State K V S) (refused : Refused K V) : Type 0 where
    pub why : IsRefusal needed refused.why
    pub key : refused.key ≡ k
    pub value : refused.value ≡ v
    pub unchanged : new ≡ old

  module _ (limit : ℕ) (eq : K → K → Bool) (old : State K V S) (k : K) (v : V) where
    -- an insertion of (k, v): it returns the old value of k, and puts the pair; or it is refused, and hands the pair back
    pub record PutsOrHandsBack (result : Result (Option V) (Refused K V)) (new : State K V S) : Type 0 where
      pub old_value : IfOk result (λ before. before ≡ value_of eq old.pairs k)
      pub put : OnOk result (HasPut eq old.pairs k v new.pairs)
      pub puts : OnOk result (Puts limit eq old k v (capacity_for_insert limit eq old k) new)
      pub succeeds : capacity_for_insert limit eq old k ≡ None → IsOk result
      pub returned : IfErr result (HandsBack old k v (capacity_for_insert limit eq old k) new)
      pub valid : IsValid limit eq new

    -- an insertion of (k, v) that returns the index of its pair too
    pub record PutsOrHandsBackWithIndex (result : Result (ℕ × Option V) (Refused K V)) (new : State K V S) : Type 0 where
      pub index : IfOk result (λ inserted. index_of (eq k) (keys_of new.pairs) ≡ Some inserted.0)
      pub inserts : PutsOrHandsBack (result_map_both (λ inserted. inserted.1) (λ refused. refused) result) new

    -- an insertion of (k, v) without a search for k, which is not held
    pub record PutsNewKeyOrHandsBack (result : Result (Unit {0}) (Refused K V)) (new : State K V S) : Type 0 where
      pub put : OnOk result (HasPut eq old.pairs k v new.pairs)
      pub puts : OnOk result (Puts limit eq old k v (capacity_for_new_key limit old) new)
      pub succeeds : capacity_for_new_key limit old ≡ None → IsOk result
      pub returned : IfErr result (HandsBack old k v (capacity_for_new_key limit old) new)
      pub valid : IsValid limit eq new

module _ {K V S : Type 0} where
  -- the map with one pair more, which is added here
  abbrev pub pushed : State K V S → K → V → Vacancy → State K V S
  pushed m k v vacancy = state_in (store_pushed (store_in m) k v vacancy) m.builder

  -- the buckets that making capacity for a pair of this hash reads, whose vacancy is known: if the table grows, those of an insertion probe
  abbrev pub growth_probe_reads : (K → ℕ) → State K V S → ℕ → Bool → ℕ
  growth_probe_reads hash m h granted =
      if nat_lt (length m.pairs) m.capacity then 0 else (if granted then miss_reads hash m.is_vec (least_table_capacity (length m.pairs + 1)) m.pairs h else 0)

  -- a granted call that makes capacity for an insertion, which needed this much: the same pairs, and a full vector is a table now
  abbrev pub Prepares : ℕ → State K V S → Option ℕ → State K V S → Type 0
  Prepares limit old needed new = KeepsPairs limit (is_vec_after limit old) old needed new

  -- a call that makes capacity for an insertion, which needs this much: it is granted, or it is refused and nothing has changed
  pub record PreparesOrRefuses {T : Type 0} (limit : ℕ) (eq : K → K → Bool) (old : State K V S) (needed : Option ℕ) (result : Result T Refusal) (new : State K V S) : Type 0 where
    pub ok : OnOk result (Prepares limit old needed new)
    pub refused : IfErr result (IsRefusal needed)
    pub unchanged : OnErr result (new ≡ old)
    pub valid : IsValid limit eq new

  module _ (eq : K → K → Bool) (hash : S → K → ℕ) where
    -- k is not held, and a pair of it may be added here: the capacity is enough for it
    pub record MayInsertAt (m : State K V S) (k : K) (vacancy : Vacancy) : Type 0 where
      pub absent : KeyMissing (eq k) m.pairs
      pub capacity : length m.pairs < m.capacity
      pub vacant : IsVacancyIn m (hash m.builder k) vacancy

    -- an insertion of k needs no more: its pair is found, or a vacancy for one
    abbrev pub IsPreparedFor : State K V S → K → Place → Type 0
    IsPreparedFor m k (Held found) = KeyFoundAt (eq k) m.pairs found.index × IsPlacedIn m found
    IsPreparedFor m k (Vacant vacancy) = MayInsertAt m k vacancy
