use Rattle.half_store.proofs.Common.{◌≡◌, ℕ, ◌-◌, slice_index, set, probe_distance, slots_from, IsOtherEmpty, looked_more}
use Rattle.half_store.proofs.lemmas.table.Deletion.{Shifts, Ahead}
use Rattle.half_store.proofs.table.deletion.backward_shift.Given as goal

-- all buckets but the gap lead to the hashes, and the gap moves on behind the probe, which has passed no empty bucket
abbrev pub invariant-loop-word : goal.invariant-loop-word
invariant-loop-word g l = record {
  read : l.word ≡ slice_index (g.B.Words.words l.buckets) l.bucket;
  apart : l.distance ≡ probe_distance l.count l.gap l.bucket;
  most : g.B.WordsMut.most l.buckets ≡ g.B.WordsMut.most l.initial.buckets;
  counted : l.tally ≡ looked_more (probe_distance l.count l.removed l.bucket) l.fn.tally;
  shifts : Shifts l.count l.hashes (g.B.Words.words l.buckets) l.removed l.gap l.bucket;
  ahead : (vacant : ℕ) → IsOtherEmpty (slots_from l.hashes (set (g.B.Words.words l.initial.buckets) l.removed 0)) l.removed vacant
      → Ahead l.count l.hashes (g.B.Words.words l.buckets) l.removed l.gap l.bucket vacant;
}

-- the buckets still to be read: fewer at each step
abbrev pub decreases-loop-word : goal.decreases-loop-word
decreases-loop-word g l = l.count - probe_distance l.count l.removed l.bucket
