-- What was copied are the first elements, in order; the capacity stays.
use Rattle.half_store.proofs.Common.{◌≡◌, ◌≤◌, length, take, vec_len, vec_capacity}
use Rattle.half_store.proofs.blocks.copy_all.Given as goal

abbrev pub invariant-loop-item : goal.invariant-loop-item
invariant-loop-item g l = record {
  items : l.to.items ≡ take l.item-index l.from;
  len : vec_len l.to ≡ l.item-index;
  inside : l.item-index ≤ length l.from;
  capacity : vec_capacity l.to ≡ vec_capacity l.initial.to;
}
