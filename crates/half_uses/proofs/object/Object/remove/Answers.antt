use Rattle.std.proofs.Common.{rules, filter, not, ap, ◌∙◌}
use Rattle.std.proofs.lemmas.Map.Made.{filter_same_pairs}
use Rattle.half_uses.proofs.object.Object.remove.Goals as goal

pub returns-clause-after : goal.returns-clause-after
returns-clause-after g c =
    filter_same_pairs _ (λ member. not (g.Q.Equivalent.equivalent c.args.name member.0)) _ (λ k v b w f call. search rules) _ _
    c.retain.ensures.kept
    ∙ ap (filter (λ member. not (g.Q.Equivalent.equivalent c.args.name member.0))) c.self.view_is
