use Rattle.half_store.proofs.Common.{◌≡◌, length, take, IsIndexed}
use Rattle.half_store.proofs.table.memory.rehash.Given as goal

-- the first pairs have their buckets
abbrev pub invariant-loop-index : goal.invariant-loop-index
invariant-loop-index g l = record {
  indexed : IsIndexed (take l.index l.hashes) (g.B.Words.words l.buckets);
  len : length (g.B.Words.words l.buckets) ≡ length (g.B.Words.words l.initial.buckets);
  most : g.B.WordsMut.most l.buckets ≡ g.B.WordsMut.most l.initial.buckets;
}
