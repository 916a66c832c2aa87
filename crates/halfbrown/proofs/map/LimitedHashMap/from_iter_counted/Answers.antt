use Rattle.halfbrown.proofs.Common.{IfOk-weaker}
use Rattle.std.proofs.lemmas.Result.{IfErr-weaker}
use Rattle.halfbrown.proofs.map.LimitedHashMap.from_iter_counted.Goals as goal

pub returns-clause-collected : goal.returns-clause-collected
returns-clause-collected g c =
    IfOk-weaker c.collect.result _ _
    (λ m h. (
      record {
        iterator = c.into_iter-items.result;
        from_items = c.into_iter-items.ensures.into_iter_gives;
        hint = c.size_hint-hint.result.0;
        hinted = c.size_hint-hint.ensures.lower;
        gave = h.0;
        drained = h.1;
        collection = h.2;
      },
      h.3,
    ))
    c.collect.ensures.collected

pub returns-clause-refused : goal.returns-clause-refused
returns-clause-refused g c =
    IfErr-weaker c.collect.result _ _
    (λ why h. (
      record {
        iterator = c.into_iter-items.result;
        from_items = c.into_iter-items.ensures.into_iter_gives;
        hint = c.size_hint-hint.result.0;
        hinted = c.size_hint-hint.ensures.lower;
        refused = h.0;
      },
      h.1,
    ))
    c.collect.ensures.refused
