use Rattle.std.proofs.Common.{◌≡◌}
use Rattle.halfbrown.specs.ByKey.{add_keys}
use Rattle.half_set.proofs.hash_set.HashSet.extend.Given as goal

abbrev pub invariant-loop-item : goal.invariant-loop-item
invariant-loop-item g l =
    (goal.iterator-loop-item g).can_next l.item-iterator × (goal.iterator-loop-item g).is_finite l.item-iterator
    × (l.self ≡ add_keys g.T.PartialEq.eq l.fn.self l.yielded)
