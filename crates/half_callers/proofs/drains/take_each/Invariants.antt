use Rattle.std.proofs.Common.{◌≡◌}
use Rattle.halfbrown.specs.Drain.{DrainsSameMap}
use Rattle.half_callers.proofs.drains.take_each.Given as goal

-- the pairs so far were moved, and the drain is still that of the map
abbrev pub invariant-loop-pair : goal.invariant-loop-pair
invariant-loop-pair g l = (l.pairs.items ≡ l.yielded) × DrainsSameMap l.initial.pair-iterator l.pair-iterator
