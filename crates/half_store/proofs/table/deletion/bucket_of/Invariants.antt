use Rattle.half_store.proofs.Common.{◌≡◌, ◌≤◌, length, ℕ, ◌-◌, ◌<◌, suc, slice_index, probe_distance, home, looked_more}
use Rattle.half_store.proofs.table.deletion.bucket_of.Given as goal

-- the pair's bucket is still ahead
abbrev pub invariant-loop-bucket : goal.invariant-loop-bucket
invariant-loop-bucket g l =
    let m = length (g.B.Words.words l.buckets) in
    let start = home m (slice_index l.hashes l.index) in
    record {
      inside : l.bucket < m;
      counted : l.tally ≡ looked_more (probe_distance m start l.bucket) l.initial.tally;
      ahead : (target : ℕ) → slice_index (g.B.Words.words l.buckets) target ≡ suc l.index
          → probe_distance m start l.bucket ≤ probe_distance m start target;
    }

-- the buckets still to be read: fewer at each step
abbrev pub decreases-loop-bucket : goal.decreases-loop-bucket
decreases-loop-bucket g l =
    let m = length (g.B.Words.words l.buckets) in
    m - probe_distance m (home m (slice_index l.hashes l.index)) l.bucket
