-- A run of two lists of commands: its steps are those of the first, and then those of the second.
use Rattle.half_laws.proofs.Common.{◌≡◌, ◌∙◌, ℕ, Bool, List, [], ◌∷◌, ◌++◌, ap, refl, sym, subst, map-append, Command}
use Rattle.half_laws.proofs.Common.{add_costs, StepsLead, commands_of, replies_of, cost_of, Step, State, lead_on}
use Rattle.half_laws.proofs.Common.{cost_of-append, SplitLaw, JoinLaw}

module _ {K V S : Type 0} where
  -- the steps of the first commands, and those of the second
  parts_of : (first second : List (Command K V)) (steps : List (Step K V S)) → first ++ second ≡ commands_of steps
      → (a : List (Step K V S)) × (b : List (Step K V S)) × (steps ≡ a ++ b) × (first ≡ commands_of a) × (second ≡ commands_of b)
  parts_of [] second steps same = ([], steps, refl, refl, same)
  parts_of (command ∷ first) second [] same = absurd (cc same)
  parts_of (command ∷ first) second (s ∷ steps) same =
      let rest = parts_of first second steps (cc same) in
      (s ∷ rest.0, rest.1, (λ i. s ∷ rest.2 i), cc (same, rest.3), rest.4)

module _ {K V S : Type 0} (limit : ℕ) (eq : K → K → Bool) where
  lead_parts : (old new : State K V S) (first second : List (Step K V S)) → StepsLead limit eq old (first ++ second) new
      → (between : State K V S) × StepsLead limit eq old first between × StepsLead limit eq between second new
  lead_parts old new [] second lead = (old, refl, lead)
  lead_parts old new (s ∷ first) second lead =
      let rest = lead_parts s.after new first second lead.3 in
      (rest.0, (lead.0, lead.1, lead.2, rest.1), rest.2)

  module _ (hash : S → K → ℕ) where
    pub split_law : SplitLaw V limit eq hash
    split_law old first second replies new cost at_cost =
        let run = at_cost.run in
        let parts = parts_of first second run.steps run.commands_are in
        let leads = lead_parts old new parts.0 parts.1 (subst (λ steps. StepsLead limit eq old steps new) parts.2 run.lead) in
        record {
          between = leads.0;
          first_replies = replies_of parts.0;
          second_replies = replies_of parts.1;
          first_cost = cost_of limit eq hash parts.0;
          second_cost = cost_of limit eq hash parts.1;
          first_runs = record { run = record { steps = parts.0; lead = leads.1; commands_are = parts.3; replies_are = refl }; cost_is = refl };
          second_runs = record { run = record { steps = parts.1; lead = leads.2; commands_are = parts.4; replies_are = refl }; cost_is = refl };
          replies_are = run.replies_are ∙ ap replies_of parts.2 ∙ map-append (λ s. s.reply) parts.0 parts.1;
          cost_is = at_cost.cost_is ∙ ap (cost_of limit eq hash) parts.2 ∙ cost_of-append limit eq hash parts.0 parts.1;
        }

    pub join_law : JoinLaw V limit eq hash
    join_law old first second replies new cost both =
        let a = both.first_runs in
        let b = both.second_runs in
        let s = a.run.steps in
        let t = b.run.steps in
        record {
          run = record {
            steps = s ++ t;
            lead = lead_on limit eq old both.between new s t a.run.lead b.run.lead;
            commands_are = (λ i. a.run.commands_are i ++ b.run.commands_are i) ∙ sym (map-append (λ s. s.command) s t);
            replies_are = both.replies_are ∙ (λ i. a.run.replies_are i ++ b.run.replies_are i) ∙ sym (map-append (λ s. s.reply) s t);
          };
          cost_is = both.cost_is ∙ (λ i. add_costs (a.cost_is i) (b.cost_is i)) ∙ sym (cost_of-append limit eq hash s t);
        }
