-- The laws of form and of hashes, by induction over the steps.
use Rattle.half_laws.proofs.Common.{◌≡◌, ◌∙◌, ℕ, ◌+◌, ◌*◌, ◌≤◌, Bool, true, false, not, ◌&&◌, ◌==◌, List, [], ◌∷◌, length, fold}
use Rattle.half_laws.proofs.Common.{count_by, cond, Option, None, unwrap_or, ap, refl, arith, common_steps, sum_by-cons}
use Rattle.half_laws.proofs.Common.{StepsLead, has_shrink, commands_of, cost_of, Step, IsValidStep, says_put, is_shrink}
use Rattle.half_laws.proofs.Common.{switches, State, form_stays, neither, steps_pay_two, table_stays, form_changed, FormLaw}
use Rattle.half_laws.proofs.Common.{SwitchLaw, TableLaw, OneSwitchLaw, UnswitchedLaw, NothingHashedLaw, HashesLaw}
use Rattle.half_laws.proofs.Common.{AmortizedHashesLaw}
use Rattle.std.specs.List.{list_any}
use Rattle.std.specs.Option.{option_or}
use Rattle.halfbrown.proofs.lemmas.run.Steps.{form_unshrunk, asked_of_step, most_asked, switch_left_most}

-- one switch, or none
abbrev once_if : Bool → ℕ
once_if b = cond b 1 0

-- at most two keys, and those of a switch
most_of_both : (limit later : ℕ) (switched v : Bool) → most_asked limit switched v + limit * later ≤ 2 + limit * (once_if switched + later)
most_of_both limit later switched v = grind (arith, common_steps)

-- a vector that becomes a table has no switch left
once_less : (v long puts : Bool) → once_if (puts && (v && long)) + once_if (v && not (puts && (v && long))) ≤ once_if v
once_less v long puts = grind (arith, common_steps)

module _ {K V S : Type 0} (limit : ℕ) (eq : K → K → Bool) where
  pub form_of_step : (s : Step K V S) → IsValidStep limit eq s → s.after.is_vec ≡ unwrap_or (form_changed limit s) s.before.is_vec
  form_of_step s step = grind (arith, common_steps)

  form_after : (first : Bool) (old new : State K V S) (steps : List (Step K V S)) (earlier : Option Bool) → StepsLead limit eq old steps new
      → old.is_vec ≡ unwrap_or earlier first
      → new.is_vec ≡ unwrap_or (fold (λ earlier s. option_or (form_changed limit s) earlier) earlier steps) first
  form_after first old new [] earlier lead form = ap (λ m. m.is_vec) lead ∙ form
  form_after first old new (s ∷ steps) earlier lead form =
      let now = form_of_step s lead.1 in
      form_after first s.after new steps (option_or (form_changed limit s) earlier) lead.3 (grind (arith, common_steps))

  pub form_law : FormLaw V S limit eq
  form_law old new steps lead = form_after old.is_vec old new steps None lead refl

  pub switch_law : SwitchLaw V S limit eq
  switch_law old new [] lead none = ap (λ m. m.is_vec) lead ∙ form_stays old.is_vec false refl
  switch_law old new (s ∷ steps) lead none =
      let parts = neither (is_shrink s.command) (has_shrink (commands_of steps)) none in
      let later = switch_law s.after new steps lead.3 parts.1 in
      grind (arith, common_steps, form_unshrunk limit eq s lead.1 parts.0)

  switches_most : (old new : State K V S) (steps : List (Step K V S)) → StepsLead limit eq old steps new → has_shrink (commands_of steps) ≡ false
      → count_by (switches limit) steps ≤ once_if old.is_vec
  switches_most old new [] lead none = omega arith
  switches_most old new (s ∷ steps) lead none =
      let parts = neither (is_shrink s.command) (has_shrink (commands_of steps)) none in
      omega (
        arith,
        sum_by-cons (λ s. once_if (switches limit s)) s steps,
        once_less s.before.is_vec (length s.before.pairs == limit) (says_put s.reply),
        ap once_if (form_unshrunk limit eq s lead.1 parts.0),
        ap (λ m. once_if m.is_vec) lead.0,
        switches_most s.after new steps lead.3 parts.1,
      )

  pub one_switch_law : OneSwitchLaw V S limit eq
  one_switch_law old new steps lead none = grind (arith, common_steps, switches_most old new steps lead none)

  module _ (hash : S → K → ℕ) where
    pub table_law : TableLaw V S limit eq
    table_law old new steps lead none =
        table_stays limit (length steps) (cost_of limit eq hash steps).asked old.is_vec new.is_vec
        (steps_pay_two limit eq hash old new steps lead none)

    pub nothing_hashed_law : NothingHashedLaw V S limit eq hash
    nothing_hashed_law old new steps lead none form = ((steps_pay_two limit eq hash old new steps lead none).vector form).1

    pub amortized_hashes_law : AmortizedHashesLaw V S limit eq hash
    amortized_hashes_law old new steps lead none =
        omega (arith, (steps_pay_two limit eq hash old new steps lead none).all, switch_left_most limit old.is_vec)

    pub hashes_law : HashesLaw V S limit eq hash
    hashes_law old new [] lead = omega arith
    hashes_law old new (s ∷ steps) lead =
        let later = count_by (switches limit) steps in
        let count : count_by (switches limit) (s ∷ steps) ≡ once_if (switches limit s) + later =
        sum_by-cons (λ s. once_if (switches limit s)) s steps in
        rw count (omega (
          arith,
          asked_of_step limit eq hash s lead.1,
          most_of_both limit later (switches limit s) s.before.is_vec,
          hashes_law s.after new steps lead.3,
        ))

    pub unswitched_law : UnswitchedLaw V S limit eq hash
    unswitched_law old new [] lead form none = (ap (λ m. m.is_vec) lead ∙ form, refl)
    unswitched_law old new (s ∷ steps) lead form none =
        let parts = neither (switches limit s) (list_any (switches limit) steps) none in
        let was = ap (λ m. m.is_vec) lead.0 ∙ form in
        let next : s.after.is_vec ≡ true = let now = form_of_step s lead.1 in grind (arith, common_steps) in
        let nothing : most_asked limit (switches limit s) s.before.is_vec ≡ 0 = λ i. most_asked limit (parts.0 i) (was i) in
        let rest = unswitched_law s.after new steps lead.3 next parts.1 in
        (rest.0, omega (arith, asked_of_step limit eq hash s lead.1, nothing, rest.1))

pub ruleset step_laws = (form_law, switch_law, one_switch_law, table_law, nothing_hashed_law, amortized_hashes_law, hashes_law)
