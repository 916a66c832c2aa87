-- What a search that finds nothing reads on average.
use Rattle.half_laws.proofs.Common.{◌≡◌, ℕ, refl, arith, common_steps, buckets_of, capacity_of, IsBucketCount}
use Rattle.half_laws.proofs.Common.{buckets_for-least, buckets_of-capacity_of, IsTableCapacity, MissLaw, MissTotalLaw}
use Rattle.half_laws.proofs.Common.{InHalfFullTables, InTables, MeanMissIsAtMost}
use Rattle.half_mean.specs.Mean.{total_reach, MeanReachIsAtMost, UpToHalf, UpToCapacity}
use Rattle.half_mean.proofs.lemmas.Means.{bucket_share, half_full_law, capacity_law}
use Rattle.halfbrown.proofs.lemmas.pairs.Indices.{absent_of_unheld}

pub miss_law : {K : Type 0} (V : Type 0) {S : Type 0} (hash : S → K → ℕ) → MissLaw V hash
miss_law V hash m test wanted asked before after table unheld costs =
    let absent = absent_of_unheld test m.pairs unheld in
    let looked = costs.grew.looked in
    grind (arith, common_steps, absent.index)

pub miss_total_law : MissTotalLaw
unfolding total_reach
miss_total_law hashes capacity held = refl

-- the buckets of a capacity of tables are a bucket count
pub table_count : (capacity : ℕ) → IsTableCapacity capacity → IsBucketCount (buckets_of capacity) × (capacity_of (buckets_of capacity) ≡ capacity)
table_count capacity is = grind (arith, common_steps, buckets_for-least, buckets_of-capacity_of)

-- a fact of every bucket count holds of every table capacity
module _ (Law : ℕ → ℕ → ℕ → Type 0) where
  pub in_half_full_tables : UpToHalf Law → InHalfFullTables (λ hashes capacity held. Law hashes (buckets_of capacity) held)
  in_half_full_tables law bits capacity held is some fits half =
      let count = table_count capacity is in
      let share = bucket_share bits (buckets_of capacity) (omega arith) count.0 fits in
      rw share.1 (law share.0 (buckets_of capacity) held (omega arith) half)

  pub in_tables : UpToCapacity Law → InTables (λ hashes capacity held. Law hashes (buckets_of capacity) held)
  in_tables law bits capacity held is some fits within =
      let count = table_count capacity is in
      law bits (buckets_of capacity) held (omega arith) count.0 fits (omega arith)

pub half_full_miss_law : InHalfFullTables (MeanMissIsAtMost 5 2)
unfolding total_reach
half_full_miss_law = in_half_full_tables (λ hashes m n. MeanReachIsAtMost hashes m n 5 2) half_full_law

pub capacity_miss_law : InTables (MeanMissIsAtMost 17 2)
unfolding total_reach
capacity_miss_law = in_tables (λ hashes m n. MeanReachIsAtMost hashes m n 17 2) capacity_law

pub ruleset miss_laws = (miss_total_law, half_full_miss_law, capacity_miss_law)
