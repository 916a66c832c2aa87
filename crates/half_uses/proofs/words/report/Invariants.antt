use Rattle.std.proofs.Common.{◌≡◌, map, string_bytes}
use Rattle.std.specs.List.{flat_map}
use Rattle.std.specs.Map.Iter.{deref_pair}
use Rattle.half_uses.proofs.words.report.Given as goal
use Rattle.half_uses.specs.Words.{line_of}

abbrev pub invariant-loop-word : goal.invariant-loop-word
invariant-loop-word l = record {
  can : (goal.iterator-loop-word).can_next l.word-iterator;
  ends : (goal.iterator-loop-word).is_finite l.word-iterator;
  so_far : string_bytes l.lines ≡ flat_map line_of (map deref_pair l.yielded);
}
