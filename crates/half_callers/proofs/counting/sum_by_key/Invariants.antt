use Rattle.std.proofs.Common.{take}
use Rattle.halfbrown.specs.ByKey.{SumsEach}
use Rattle.half_callers.proofs.counting.sum_by_key.Given as goal

abbrev pub invariant-loop-key : goal.invariant-loop-key
invariant-loop-key g l = SumsEach g.K.PartialEq.eq (take l.key-index l.items) l.sums.pairs
