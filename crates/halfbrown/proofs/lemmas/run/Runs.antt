-- A run so far, and one step more.
use Rattle.halfbrown.proofs.Common.{◌≡◌, ℕ, Bool, false, length, arith, List, [], ◌∷◌, ◌++◌, refl, ap, ◌∙◌, subst, map, common_steps, map-append, Work, TallyGrewBy}
use Rattle.halfbrown.proofs.Common.{add_costs, Step, State, IsValid}
use Rattle.std.proofs.Common.{◌||◌, append_assoc, append-nil}
use Rattle.std.proofs.lemmas.List.{length-map}
use Rattle.halfbrown.specs.declared.run.Command.{Command}
use Rattle.halfbrown.specs.declared.run.Reply.{Reply}
use Rattle.halfbrown.specs.Run.{IsValidStep, is_shrink, StepsLead, Runs, has_shrink, commands_of, replies_of, step_cost, cost_of}
use Rattle.halfbrown.proofs.lemmas.map.Costs.{none_more, more_none, costs_assoc, spent_none, spent_both}
use Rattle.halfbrown.proofs.lemmas.run.Steps.{PaysTwo, switch_left, step_pays_two}

pub neither : (a b : Bool) → (a || b) ≡ false → (a ≡ false) × (b ≡ false)
neither a b none = grind (arith, common_steps)

module _ {K V S : Type 0} (limit : ℕ) (eq : K → K → Bool) where
  -- steps, and then others
  pub lead_on : (old between new : State K V S) (first second : List (Step K V S)) → StepsLead limit eq old first between
      → StepsLead limit eq between second new → StepsLead limit eq old (first ++ second) new
  lead_on old between new [] second lead next = subst (λ m. StepsLead limit eq m second new) lead next
  lead_on old between new (s ∷ first) second lead next = (lead.0, lead.1, lead.2, lead_on s.after between new first second lead.3 next)

  module _ (hash : S → K → ℕ) where
    pub cost_of-append : (first second : List (Step K V S))
        → cost_of limit eq hash (first ++ second) ≡ add_costs (cost_of limit eq hash first) (cost_of limit eq hash second)
    cost_of-append [] second = none_more (cost_of limit eq hash second)
    cost_of-append (s ∷ first) second = grind (arith, common_steps, costs_assoc, cost_of-append first second)

    module _ (old : State K V S) (commands : List (Command K V)) (before : Work) where
      -- the steps so far lead from old to now, with the replies so far; these commands are left, and the tally grew by the cost so far
      pub record RunSoFar (now : State K V S) (left : List (Command K V)) (replies : List (Reply K V)) (after : Work) : Type 0 where
        pub steps : List (Step K V S)
        pub lead : StepsLead limit eq old steps now
        pub commands_are : commands ≡ commands_of steps ++ left
        pub replies_are : replies ≡ replies_of steps
        pub spent : TallyGrewBy (cost_of limit eq hash steps) before after

      pub no_step : RunSoFar old commands [] before
      no_step = record { steps = []; lead = refl; commands_are = refl; replies_are = refl; spent = spent_none before }

      pub step_more : (s : Step K V S) (left : List (Command K V)) (replies : List (Reply K V)) (middle after : Work)
          → RunSoFar s.before (s.command ∷ left) replies middle → IsValidStep limit eq s → IsValid limit eq s.after
          → TallyGrewBy (step_cost limit eq hash s) middle after → RunSoFar s.after left (replies ++ s.reply ∷ []) after
      step_more s left replies middle after so_far step state spent =
          let steps = so_far.steps in
          record {
            steps = steps ++ s ∷ [];
            lead = lead_on old s.before s.after steps (s ∷ []) so_far.lead (refl, step, state, refl);
            commands_are = grind (arith, common_steps, append_assoc, map, map-append, so_far.commands_are);
            replies_are = grind (arith, common_steps, map, map-append, so_far.replies_are);
            spent = grind (arith, common_steps, cost_of-append, more_none, so_far.spent, spent_both);
          }

      pub run_ended : (now : State K V S) (left : List (Command K V)) (replies : List (Reply K V)) (after : Work) → left ≡ []
          → RunSoFar now left replies after
          → (run : Runs limit eq old commands replies now) × TallyGrewBy (cost_of limit eq hash run.steps) before after
      run_ended now left replies after none so_far =
          let all = so_far.commands_are ∙ ap (λ cs. commands_of so_far.steps ++ cs) none ∙ append-nil (commands_of so_far.steps) in
          (record { steps = so_far.steps; lead = so_far.lead; commands_are = all; replies_are = so_far.replies_are }, so_far.spent)

    -- a run without `Shrink`
    pub steps_pay_two : (old new : State K V S) (steps : List (Step K V S)) → StepsLead limit eq old steps new
        → has_shrink (commands_of steps) ≡ false → PaysTwo limit (length steps) (cost_of limit eq hash steps).asked old.is_vec new.is_vec
    steps_pay_two old new [] lead none = grind (arith, common_steps, switch_left)
    steps_pay_two old new (s ∷ steps) lead none =
        let parts = neither (is_shrink s.command) (has_shrink (commands_of steps)) none in
        let first = step_pays_two limit eq hash s lead.1 parts.0 in
        let rest = steps_pay_two s.after new steps lead.3 parts.1 in
        let same = ap (λ m. m.is_vec) lead.0 in
        grind (arith, common_steps)

    pub run_pays_two : (old new : State K V S) (commands : List (Command K V)) (replies : List (Reply K V))
        (run : Runs limit eq old commands replies new) → has_shrink commands ≡ false
        → PaysTwo limit (length commands) (cost_of limit eq hash run.steps).asked old.is_vec new.is_vec
    run_pays_two old new commands replies run none = grind (arith, common_steps, length-map, steps_pay_two)

-- a table stays one
pub table_stays : (limit count asked : ℕ) (was is : Bool) → PaysTwo limit count asked was is → was ≡ false → is ≡ false
table_stays limit count asked was is pays table = grind (arith, common_steps)
