use Rattle.std.proofs.Common.{sym, ◌∙◌}
use Rattle.half_uses.proofs.Recency.{nothing_refreshed}
use Rattle.half_uses.proofs.bounded_cache.BoundedCache.get.Goals as goal

pub returns-in_err-value-clause-after : goal.returns-in_err-value-clause-after
returns-in_err-value-clause-after g c = nothing_refreshed (g.Q.Equivalent.equivalent c.args.key) c.args.self.now.held.pairs
    (sym c.get.ensures ∙ sym c.copied.ensures ∙ c.in_err-value.was)
