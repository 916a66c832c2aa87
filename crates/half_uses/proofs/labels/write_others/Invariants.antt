use Rattle.std.proofs.Common.{map}
use Rattle.std.specs.Fmt.{HasWritten, IsPlainFormatter}
use Rattle.std.specs.Map.Iter.{deref_pair}
use Rattle.half_uses.proofs.labels.write_others.Given as goal
use Rattle.half_uses.specs.Labels.{others_text}

abbrev pub invariant-loop-name : goal.invariant-loop-name
invariant-loop-name g l = record {
  can : (goal.iterator-loop-name g).can_next l.name-iterator;
  ends : (goal.iterator-loop-name g).is_finite l.name-iterator;
  so_far : IsPlainFormatter l.fn.f → HasWritten g.W.Write.write_str_gives l.fn.f (others_text (map deref_pair l.yielded)) l.f;
}
