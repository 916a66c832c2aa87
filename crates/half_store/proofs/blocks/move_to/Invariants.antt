-- What was moved and what is left are all elements, in order; the capacity stays.
use Rattle.half_store.proofs.Common.{◌≡◌, vec_len, vec_capacity, ◌+◌, ◌++◌}
use Rattle.std.specs.Vec.Iter.{into_iter_items, into_iter_len}
use Rattle.half_store.proofs.blocks.move_to.Given as goal

abbrev pub invariant-loop-item : goal.invariant-loop-item
invariant-loop-item g l = record {
  items : l.fresh.items ++ into_iter_items l.left ≡ l.fn.column.items;
  len : vec_len l.fresh + into_iter_len l.left ≡ vec_len l.fn.column;
  capacity : vec_capacity l.fresh ≡ vec_capacity l.initial.fresh;
}

abbrev pub decreases-loop-item : goal.decreases-loop-item
decreases-loop-item g l = into_iter_len l.left
