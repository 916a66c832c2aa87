use Rattle.std.proofs.Common.{ap, ◌∙◌}
use Rattle.std.specs.Option.{option_map}
use Rattle.halfbrown.proofs.lemmas.pairs.Indices.{value_of_entry}
use Rattle.halfbrown.specs.Pairs.{value_of}
use Rattle.half_uses.proofs.cache.Cache.remove.Goals as goal

pub returns-in_err-value-clause-value : goal.returns-in_err-value-clause-value
returns-in_err-value-clause-value g c =
    let eq = g.K.PartialEq.eq in
    c.from_residual.ensures ∙ ap (option_map (λ p. p.1)) c.in_err-value.ensures.removes.returned
    ∙ value_of_entry (eq c.args.key.now.key) c.self.inside.values.pairs ∙ ap (λ m. value_of eq m.pairs c.args.key.now.key) c.self.view_is

pub returns-clause-value : goal.returns-clause-value
returns-clause-value g c =
    let eq = g.K.PartialEq.eq in
    ap (option_map (λ p. p.1)) c.in_ok-value.ensures.removes.returned
    ∙ value_of_entry (eq c.args.key.now.key) c.self.inside.values.pairs ∙ ap (λ m. value_of eq m.pairs c.args.key.now.key) c.self.view_is
