use Rattle.std.proofs.Common.{take}
use Rattle.halfbrown.specs.ByKey.{GroupsEach}
use Rattle.half_callers.proofs.counting.group.Given as goal

abbrev pub invariant-loop-key : goal.invariant-loop-key
invariant-loop-key g l = GroupsEach g.K.PartialEq.eq (λ values. values.items) (take l.key-index l.items) l.groups.pairs
