-- When a call needs more capacity, how much, and what the capacity is afterwards. A call is granted if it returns `Ok`, and refused if
-- it returns `Err`. A switching call, an insertion, `entry` or `raw_entry_mut`, makes a full vector a table first, also if the key is held.
use Rattle.std.specs.Prelude.{◌≡◌, ℕ, ◌+◌, ◌<◌, ◌≤◌, Bool, not, ◌&&◌, ◌==◌, nat_lt, length, Option, None, Some, Result, OnOk, OnErr, IsOk, IfErr, if◌then◌else◌}
pub use Rattle.half_store.specs.declared.refusal.Refusal.{Refusal}
pub use Rattle.half_store.specs.Refusal.{IsRefusal, IsGrantable}
pub use Rattle.half_store.specs.Capacity.{wanted_capacity, capacity_needed, capacity_after}
use Rattle.half_store.specs.Capacity.{is_vec_shrunk, shrunk_capacity}
use Rattle.halfbrown.specs.State.{State, IsValid}
use Rattle.halfbrown.specs.Pairs.{holds}

-- the capacity that one pair more needs, if no capacity is left for it; otherwise none
abbrev pub capacity_for_growth : {K V S : Type 0} → State K V S → Option ℕ
capacity_for_growth m = if nat_lt (length m.pairs) m.capacity then None else Some (length m.pairs + 1)

-- the capacity that a reservation for this many pairs more needs: that which is wanted, if it is more than there is
abbrev pub capacity_for_reserve : {K V S : Type 0} → ℕ → State K V S → ℕ → Option ℕ
capacity_for_reserve limit m additional = capacity_needed m.capacity (wanted_capacity limit m.is_vec (length m.pairs + additional))

-- the capacity that a constructor for this many pairs needs: none for 0
abbrev pub capacity_for_making : ℕ → Option ℕ
capacity_for_making needed = capacity_needed 0 needed

module _ {K V S : Type 0} (limit : ℕ) where
  -- a vector that holds as many pairs as the limit, whatever its capacity
  abbrev pub is_full : State K V S → Bool
  is_full m = m.is_vec && (length m.pairs == limit)

  -- whether the form is the vector after an insertion or `entry` that succeeded: it was one, and not full
  abbrev pub is_vec_after : State K V S → Bool
  is_vec_after m = m.is_vec && not (is_full m)

  -- the capacity that a switching call needs for its switch: one more than the limit
  abbrev pub capacity_for_switch : State K V S → Option ℕ
  capacity_for_switch m = if is_full m then Some (limit + 1) else None

  -- the capacity that an insertion of a new key needs: limit + 1 in a full vector, otherwise one more than are held if no capacity is left
  abbrev pub capacity_for_new_key : State K V S → Option ℕ
  capacity_for_new_key m = if is_full m then Some (limit + 1) else capacity_for_growth m

  -- the capacity that an insertion of k needs: limit + 1 in a full vector, otherwise one more than are held if k is new and no capacity is left
  abbrev pub capacity_for_insert : (K → K → Bool) → State K V S → K → Option ℕ
  capacity_for_insert eq m k = if is_full m then Some (limit + 1) else (if holds eq m.pairs k then None else capacity_for_growth m)

  -- a granted call that needed this much capacity and changes no pair: the map is a vector exactly if `is_vec` says so
  pub record KeepsPairs (is_vec : Bool) (old : State K V S) (needed : Option ℕ) (new : State K V S) : Type 0 where
    pub pairs : new.pairs ≡ old.pairs
    pub form : new.is_vec ≡ is_vec
    pub capacity : new.capacity ≡ capacity_after limit is_vec old.capacity needed
    pub grantable : IsGrantable needed
    pub builder : new.builder ≡ old.builder

  -- a granted reservation for this many pairs more: the capacity is enough for them; in a vector for no more pairs in all than the limit
  pub record IsReserved (old : State K V S) (additional : ℕ) (new : State K V S) : Type 0 where
    pub enough : wanted_capacity limit old.is_vec (length old.pairs + additional) ≤ new.capacity
    pub only_capacity : KeepsPairs old.is_vec old (capacity_for_reserve limit old additional) new

  -- a reservation for this many pairs more: it is granted, or it is refused and nothing has changed
  pub record ReservesOrRefuses (eq : K → K → Bool) (old : State K V S) (additional : ℕ) (result : Result (Unit {0}) Refusal) (new : State K V S) : Type 0 where
    pub reserves : OnOk result (IsReserved old additional new)
    pub succeeds : capacity_for_reserve limit old additional ≡ None → IsOk result
    pub refused : IfErr result (IsRefusal (capacity_for_reserve limit old additional))
    pub unchanged : OnErr result (new ≡ old)
    pub valid : IsValid limit eq new

  -- capacity is given back, and so is the table if the limit allows the pairs
  pub record IsShrunk (old new : State K V S) : Type 0 where
    pub pairs : new.pairs ≡ old.pairs
    pub form : new.is_vec ≡ is_vec_shrunk limit old.is_vec (length old.pairs)
    pub capacity : new.capacity ≡ shrunk_capacity limit old.is_vec (length old.pairs)
    pub builder : new.builder ≡ old.builder

  -- giving capacity back needs memory: there are pairs, and a smaller capacity is enough for them
  pub record ShrinkingNeedsMemory (old : State K V S) : Type 0 where
    pub some : 0 < shrunk_capacity limit old.is_vec (length old.pairs)
    pub less : shrunk_capacity limit old.is_vec (length old.pairs) < old.capacity

  -- after `shrink_to_fit` capacity is given back; or, only if that needs memory, which may be refused, all may be as before
  pub data ShrinksOrStays (old new : State K V S) : Type 0 where
    GivesBack : IsShrunk old new → ShrinksOrStays old new
    Stays : ShrinkingNeedsMemory old → new ≡ old → ShrinksOrStays old new
