-- A full vector holds as many pairs as the limit allows, and a form that is not full stays.
use Rattle.halfbrown.proofs.Common.{◌≡◌, ℕ, ◌+◌, Bool, true, false, length, arith, not, ◌&&◌, common_steps, is_full, Prepares, State}
use Rattle.std.proofs.lemmas.Bool.Decides.{nat_tests}
use Rattle.std.specs.Prelude.{Some, None, if◌then◌else◌}
use Rattle.half_store.specs.Capacity.{least_table_capacity}
use Rattle.halfbrown.specs.Costs.{capacity_after_switch}
use Rattle.halfbrown.specs.Growth.{capacity_for_switch, KeepsPairs}

pub and_false : (b : Bool) → (b && false) ≡ false
and_false b = grind (arith, common_steps)

pub full_len : {K V S : Type 0} (limit : ℕ) (m : State K V S) → is_full limit m ≡ true → length m.pairs ≡ limit
full_len limit m full = grind (arith, nat_tests)

pub form_stays : (is_vec full : Bool) → full ≡ false → is_vec ≡ (is_vec && not full)
form_stays is_vec full e = grind (arith, common_steps)

module _ {K V S : Type 0} (limit : ℕ) (old new : State K V S) where
  capacity_by : (full : Bool) → KeepsPairs limit (old.is_vec && not full) old (if full then Some (limit + 1) else None) new
      → new.capacity ≡ (if full then least_table_capacity (limit + 1) else old.capacity)
  capacity_by full granted = grind (arith, common_steps)

  -- the capacity once a granted switch is made
  pub switched_capacity : Prepares limit old (capacity_for_switch limit old) new → new.capacity ≡ capacity_after_switch limit old
  switched_capacity = capacity_by (is_full limit old)
