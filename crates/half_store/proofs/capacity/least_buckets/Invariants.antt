use Rattle.half_store.proofs.Common.{◌≤◌, ℕ, ◌-◌, ◌^◌, ◌<◌, capacity_of, IsBucketCount}
use Rattle.half_store.proofs.capacity.least_buckets.Given as goal

-- the count is one of the series, and no smaller one serves
abbrev pub invariant-loop-buckets : goal.invariant-loop-buckets
invariant-loop-buckets l = record {
  count : IsBucketCount l.buckets;
  some : 4 ≤ l.buckets;
  small : l.buckets < 2 ^ 64;
  least : (other : ℕ) → IsBucketCount other → l.needed ≤ capacity_of other → l.buckets ≤ other;
}

abbrev pub decreases-loop-buckets : goal.decreases-loop-buckets
decreases-loop-buckets l = l.needed - capacity_of l.buckets
