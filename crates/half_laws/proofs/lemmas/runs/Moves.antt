-- How many pairs a run moves: each step pays two, and what a map has paid and not used is its credit.
use Rattle.half_laws.proofs.Common.{◌≡◌, ℕ, suc, ◌+◌, ◌-◌, ◌*◌, ◌≤◌, nat_lt, ◌==◌, inl, inr, Bool, true, false, List, [], ◌∷◌}
use Rattle.half_laws.proofs.Common.{length, sum_by, Option, ap, sym, subst, arith, if◌then◌else◌, common_steps, cases_lt}
use Rattle.half_laws.proofs.Common.{and_parts, sum_by-cons, IsBucketCount, capacity_of, next_bucket_count, least_buckets}
use Rattle.half_laws.proofs.Common.{least_table_capacity, grown_capacity, next_bucket_count-some, buckets_for-least}
use Rattle.half_laws.proofs.Common.{buckets_for-grown, quarter, is_full, capacity_after, put, StepsLead, has_shrink}
use Rattle.half_laws.proofs.Common.{commands_of, Step, IsValidStep, is_shrink, State, IsValid, IsTableCapacity, len_put}
use Rattle.half_laws.proofs.Common.{full_len, form_stays, and_false, neither, MovesLaw, is_reserve, has_reserve, moved}
use Rattle.std.proofs.lemmas.Bool.Decides.{nat_tests}
use Rattle.half_laws.proofs.lemmas.runs.Changes.{IsDue, PutsDue, step_changes}

-- twice the capacity, when a table grows
double : (m : ℕ) → IsBucketCount m → 2 * capacity_of m ≤ capacity_of (next_bucket_count m)
double m count =
    elim (cases_lt 0 m) [
      | inl some ↦ rw (next_bucket_count-some m some) (let q = quarter m count in omega (arith, q.1))
      | inr none ↦ omega arith
    ]

table_doubles : (capacity : ℕ) → IsTableCapacity capacity → 2 * capacity ≤ least_table_capacity (capacity + 1)
table_doubles capacity is =
    let m : ℕ = least_buckets capacity in
    let count = (buckets_for-least capacity).count in
    let next : capacity + 1 ≡ suc (capacity_of m) = omega (arith, is) in
    omega (arith, is, double m count, ap least_table_capacity next, ap capacity_of (buckets_for-grown m count))

-- what a vector has to pay for: its last growth, and the switch
abbrev budget : ℕ → Bool → ℕ → ℕ
budget limit is_vec capacity = if is_vec then (if nat_lt capacity limit then 2 * limit else limit) else 0

budget_most : (limit : ℕ) (is_vec : Bool) (capacity : ℕ) → budget limit is_vec capacity ≤ 2 * limit
budget_most limit is_vec capacity = grind (arith, common_steps)

module _ {K V S : Type 0} (limit : ℕ) (eq : K → K → Bool) where
  -- the pairs that are moved between two states
  abbrev moved_from : State K V S → State K V S → ℕ
  moved_from old new = if new.capacity == old.capacity then 0 else length old.pairs

  -- what was paid and not used
  abbrev credit : State K V S → ℕ
  credit m = (2 * length m.pairs - m.capacity) + budget limit m.is_vec m.capacity

  abbrev Pays : State K V S → State K V S → Type 0
  Pays old new = moved_from old new + credit new ≤ credit old + 2

  -- a step that adds one pair at most
  module _ (old new : State K V S) (state : IsValid limit eq old) (few : length new.pairs ≤ length old.pairs + 1) where
    moves : moved_from old new ≤ length old.pairs
    moves = grind (arith, common_steps)

    -- the capacity stays
    stays_pays : new.is_vec ≡ old.is_vec → new.capacity ≡ old.capacity → Pays old new
    stays_pays form capacity = grind (arith, common_steps, nat_tests)

    switch_pays : is_full limit old ≡ true → new.is_vec ≡ false → new.capacity ≡ least_table_capacity (limit + 1) → Pays old new
    switch_pays full form capacity = grind (arith, common_steps, nat_tests, buckets_for-least, and_parts, full_len, moves)

    vector_pays : is_full limit old ≡ false → old.is_vec ≡ true → new.is_vec ≡ old.is_vec → old.capacity ≤ length old.pairs
        → new.capacity ≡ grown_capacity limit old.capacity (length old.pairs + 1) → Pays old new
    vector_pays full vec form filled capacity = grind (arith, common_steps)

    table_pays : old.is_vec ≡ false → new.is_vec ≡ old.is_vec → old.capacity ≤ length old.pairs
        → new.capacity ≡ least_table_capacity (length old.pairs + 1) → Pays old new
    table_pays table form filled capacity = grind (arith, common_steps, moves, table_doubles)

    grown_pays : is_full limit old ≡ false → new.is_vec ≡ old.is_vec → (needs : Option ℕ) → IsDue old needs
        → new.capacity ≡ capacity_after limit old.is_vec old.capacity needs → Pays old new
    grown_pays full form needs due after = grind (arith, common_steps, stays_pays, table_pays, vector_pays)

    put_pays : (put : PutsDue limit eq old new) → Pays old new
    put_pays put = grind (arith, common_steps, switch_pays, grown_pays, form_stays, and_false)

  put_few : (old new : State K V S) → PutsDue limit eq old new → length new.pairs ≤ length old.pairs + 1
  put_few old new put = grind (arith, common_steps, len_put)

  step_pays : (s : Step K V S) → IsValid limit eq s.before → IsValidStep limit eq s → is_shrink s.command ≡ false → is_reserve s.command ≡ false
      → Pays s.before s.after
  step_pays s state step no_shrink no_reserve = grind (arith, common_steps, step_changes, put_pays, put_few, stays_pays)

  steps_pay : (old new : State K V S) (steps : List (Step K V S)) → StepsLead limit eq old steps new → IsValid limit eq old
      → has_shrink (commands_of steps) ≡ false → has_reserve (commands_of steps) ≡ false → sum_by moved steps ≤ 2 * length steps + credit old
  steps_pay old new [] lead state no_shrink no_reserve = omega arith
  steps_pay old new (s ∷ steps) lead state no_shrink no_reserve =
      let shrink = neither (is_shrink s.command) (has_shrink (commands_of steps)) no_shrink in
      let reserve = neither (is_reserve s.command) (has_reserve (commands_of steps)) no_reserve in
      omega (
        arith,
        sum_by-cons moved s steps,
        ap credit lead.0,
        step_pays s (subst (IsValid limit eq) (sym lead.0) state) lead.1 shrink.0 reserve.0,
        steps_pay s.after new steps lead.3 lead.2 shrink.1 reserve.1,
      )

  pub moves_law : MovesLaw V S limit eq
  moves_law old new steps lead state no_shrink no_reserve =
      omega (arith, steps_pay old new steps lead state no_shrink no_reserve, state.fits, budget_most limit old.is_vec old.capacity)
