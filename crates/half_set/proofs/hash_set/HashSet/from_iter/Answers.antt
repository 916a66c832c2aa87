use Rattle.halfbrown.proofs.lemmas.map.Collect.{at_error}
use Rattle.half_set.proofs.hash_set.HashSet.from_iter.Goals as goal

pub returns-clause-made : goal.returns-clause-made
returns-clause-made g c =
    let run = c.in_ok-extend.ensures.extended in
    (run.0, run.1, (run.2.0, run.2.1, run.2.2, rw c.new-set.ensures at run.2.3.0))

pub returns-in_err-extend-clause-refused : goal.returns-in_err-extend-clause-refused
returns-in_err-extend-clause-refused g c =
    let r = c.in_err-extend.ensures.refused in
    (at_error c.from_residual.result c.in_err-extend.field-0.0 (Unit {0}) _ c.from_residual.ensures
    (r.0, r.1, r.2, r.3, r.4, rw c.new-set.ensures at (rw r.5 at r.6))).1
