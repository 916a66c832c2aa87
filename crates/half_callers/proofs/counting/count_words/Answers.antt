use Rattle.std.proofs.Common.{◌+◌, rules}
use Rattle.halfbrown.proofs.callers.Keys.{counted_step}
use Rattle.half_callers.proofs.counting.count_words.Goals as goal

pub loop-word-preserved : goal.loop-word-preserved
loop-word-preserved g c =
    let put = c.in_ok-counts.ensures.makes.writes.put (c.or_insert.result.now + 1) in
    search (rules, counted_step g.met.K.Eq.laws _ c.loop-word.word-index c.loop-word.invariant put)
