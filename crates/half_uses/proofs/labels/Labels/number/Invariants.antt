use Rattle.std.proofs.Common.{◌≡◌, map}
use Rattle.std.specs.Map.Iter.{deref_pair}
use Rattle.half_uses.proofs.labels.Labels.number.Given as goal
use Rattle.half_uses.specs.Labels.{labels_number}

abbrev pub invariant-loop-name : goal.invariant-loop-name
invariant-loop-name l = record {
  can : (goal.iterator-loop-name).can_next l.name-iterator;
  ends : (goal.iterator-loop-name).is_finite l.name-iterator;
  so_far : l.number ≡ labels_number (map deref_pair l.yielded);
}
