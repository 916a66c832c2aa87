use Rattle.std.proofs.Common.{[], ◌∷◌, ◌++◌, sym, ap, ◌∙◌}
use Rattle.half_uses.proofs.Recency.{newest-push}
use Rattle.half_uses.proofs.bounded_cache.BoundedCache.insert.Goals as goal

pub returns-clause-after : goal.returns-clause-after
returns-clause-after g c =
    c.insert_within.ensures.pairs ∙ ap (λ ps. ps ++ (c.args.key, c.args.value) ∷ []) c.make_way-gone.ensures.left
    ∙ sym (newest-push c.args.self.now.bound _ (c.args.key, c.args.value) c.args.self.now.some)

pub returns-clause-value : goal.returns-clause-value
returns-clause-value g c = c.insert_within.ensures.put.value

pub returns-clause-others : goal.returns-clause-others
returns-clause-others g c other differs spared =
    c.insert_within.ensures.put.others other differs ∙ c.make_way-gone.ensures.others other differs spared
