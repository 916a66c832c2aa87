use Rattle.std.proofs.Common.{◌≡◌, ◌+◌, ◌<◌, ◌^◌, sum}
use Rattle.std.specs.Map.{values_of}
use Rattle.halfbrown.specs.Iter.{pairs_left}
use Rattle.half_callers.proofs.iteration.total_by_pairs.Given as goal

abbrev pub invariant-loop-amount : goal.invariant-loop-amount
invariant-loop-amount g l =
    (l.total < 2 ^ 64) × (l.total + sum (values_of (pairs_left l.amount-iterator)) ≡ sum (values_of l.ledger.pairs))
