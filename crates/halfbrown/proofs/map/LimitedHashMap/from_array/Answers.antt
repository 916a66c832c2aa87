use Rattle.halfbrown.proofs.Common.{List, ◌∙◌, sym, subst, inr, IfOk-weaker, into_iter_items, Gives}
use Rattle.std.proofs.IntoIterSteps.{All-taken}
use Rattle.std.proofs.lemmas.Result.{IfErr-weaker}
use Rattle.std.specs.Vec.Iter.{into_iter_steps}
use Rattle.halfbrown.specs.Collect.{AreFirst, Collects}
use Rattle.halfbrown.proofs.lemmas.map.Collect.{gave_first, refusal_given}
use Rattle.halfbrown.proofs.map.LimitedHashMap.from_array.Goals as goal

pub returns-clause-collected : goal.returns-clause-collected
returns-clause-collected g c =
    IfOk-weaker c.uncounted.result _ _
    (λ m h. subst (λ (xs : List (g.row.K.Denot × g.row.V.Denot)). Collects g.L.Limit.LIMIT g.K.PartialEq.eq g.S.Default.is_default
    g.row.N xs m)
    (All-taken c.into_iter.result h.0 h.1 ∙ c.into_iter.ensures.rest ∙ c.in_ok-pairs.ensures.items) h.2)
    c.uncounted.ensures.collected

pub returns-clause-refused : goal.returns-clause-refused
returns-clause-refused g c =
    let it = c.into_iter.result in
    let is_all = c.into_iter.ensures.rest ∙ c.in_ok-pairs.ensures.items in
    IfErr-weaker c.uncounted.result _ _
    (λ why h. inr (
    refusal_given g.L.Limit.LIMIT g.K.PartialEq.eq g.met.K.Eq.laws g.S.Default.is_default g.row.N (Gives into_iter_steps it)
    (AreFirst c.args.pairs) why
    (λ xs gave. (into_iter_items gave.0, sym is_all ∙ gave_first it xs gave.0 gave.1)) h.0))
    c.uncounted.ensures.refused
