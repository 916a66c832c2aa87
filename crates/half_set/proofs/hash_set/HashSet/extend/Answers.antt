use Rattle.std.proofs.Common.{refl, ◌∙◌}
use Rattle.std.proofs.iter.SoFar.{exit_by}
use Rattle.halfbrown.proofs.lemmas.map.Collect.{at_error, yields_more}
use Rattle.half_set.proofs.Sets.{union_added}
use Rattle.half_set.proofs.hash_set.HashSet.extend.Goals as goal

pub returns-clause-extended : goal.returns-clause-extended
returns-clause-extended g c =
    let run = exit_by _ (c.loop-item.yielded, c.loop-item.yielded_by) c.next.new.self c.in-None.ensures.steps in (
      _,
      c.into_iter-item-iterator.ensures.into_iter_gives,
      (run.0, run.1, run.2, rw (run.3.0, c.loop-item.invariant.2) (refl, union_added g.met.T.Eq.laws c.args.self.now c.loop-item.yielded)),
    )

pub returns-in_err-insert-clause-refused : goal.returns-in_err-insert-clause-refused
returns-in_err-insert-clause-refused g c =
    let it = c.into_iter-item-iterator.result in
    let given = yields_more g.I.IntoIter.Iterator.next_gives it c.loop-item.yielded c.loop-item.item-iterator c.in-Some.item c.next.new.self
    c.loop-item.yielded_by c.in-Some.ensures.steps in
    (at_error c.from_residual.result c.in_err-insert.field-0.0 (Unit {0}) _ c.from_residual.ensures (
      it,
      c.loop-item.yielded,
      c.in-Some.item,
      c.into_iter-item-iterator.ensures.into_iter_gives,
      (c.next.new.self, given),
      c.in_err-insert.ensures.err ∙ c.loop-item.invariant.2,
      rw c.in_err-insert.ensures.err c.in_err-insert.ensures.why,
    )).1
