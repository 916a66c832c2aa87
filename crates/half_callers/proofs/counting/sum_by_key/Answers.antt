use Rattle.std.proofs.Common.{◌+◌, arith, rules}
use Rattle.std.proofs.lemmas.Grind.{common_steps}
use Rattle.halfbrown.proofs.callers.Keys.{sum_fits, summed_step}
use Rattle.half_callers.proofs.counting.sum_by_key.Goals as goal

pub overflow_add-sums : goal.overflow_add-sums
overflow_add-sums g c =
    let item = c.loop-key-item.result in
    let fits = sum_fits g.met.K.Eq.laws _ c.loop-key.key-index item c.loop-key.sums.pairs item.0 c.loop-key.invariant in
    grind (arith, common_steps, fits, c.requires.fits item.0)

pub loop-key-preserved : goal.loop-key-preserved
loop-key-preserved g c =
    let item = c.loop-key-item.result in
    let put = c.in_ok-sums.ensures.makes.writes.put (c.or_insert.result.now + item.1) in
    search (rules, summed_step g.met.K.Eq.laws _ c.loop-key.key-index item c.loop-key.invariant put)
