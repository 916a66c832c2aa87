use Rattle.std.proofs.Common.{◌≡◌, length}
use Rattle.half_set.specs.Sets.{selected}
use Rattle.half_set.proofs.iter.SelectedIterator.next.Given as goal

abbrev pub invariant-loop-value : goal.invariant-loop-value
invariant-loop-value g l =
    let old = l.initial.self-inside in
    let now = l.self-inside in
    selected g.T.PartialEq.eq old.members old.other.now old.values
    ≡ selected g.T.PartialEq.eq now.members now.other.now now.values

abbrev pub decreases-loop-value : goal.decreases-loop-value
decreases-loop-value g l = length l.self-inside.values
