use Rattle.half_store.proofs.Common.{◌≡◌, ◌≤◌, length, ℕ, ◌<◌, slice_index, looked_more}
use Rattle.half_store.specs.StoreRemoval.{word_after_move}
use Rattle.half_store.proofs.table.shift.move_to_end.Given as goal

-- the buckets before this one have their new words, and the others their old ones
abbrev pub invariant-loop-bucket : goal.invariant-loop-bucket
invariant-loop-bucket g l =
    let old = g.B.Words.words l.initial.buckets in
    let words = g.B.Words.words l.buckets in
    record {
      len : length words ≡ length old;
      written : (k : ℕ) → k < l.bucket → slice_index words k ≡ word_after_move l.pairs l.index (slice_index old k);
      ahead : (k : ℕ) → l.bucket ≤ k → slice_index words k ≡ slice_index old k;
      most : g.B.WordsMut.most l.buckets ≡ g.B.WordsMut.most l.initial.buckets;
      counted : l.tally ≡ looked_more l.bucket l.initial.tally;
    }
