-- The run so far, and capacity for a reply to each command that is left, and for no more.
use Rattle.halfbrown.proofs.Common.{◌≡◌, ◌+◌, ◌≤◌, length, into_iter_items}
use Rattle.std.proofs.Common.{vec_len, vec_capacity}
use Rattle.std.specs.Vec.Iter.{into_iter_len}
use Rattle.halfbrown.proofs.lemmas.run.Runs.{RunSoFar}
use Rattle.halfbrown.proofs.run.run_counted.Given as goal

abbrev pub invariant-loop-command : goal.invariant-loop-command
invariant-loop-command g l = record {
  so_far : RunSoFar g.L.Limit.LIMIT g.K.PartialEq.eq g.S.KeyHasher.hash
      l.fn.map l.fn.commands.items l.fn.tally l.map (into_iter_items l.left) l.replies.items l.tally;
  capacity : vec_len l.replies + into_iter_len l.left ≤ vec_capacity l.replies;
  exact : vec_capacity l.replies ≡ length l.fn.commands.items;
}

abbrev pub decreases-loop-command : goal.decreases-loop-command
decreases-loop-command g l = into_iter_len l.left
