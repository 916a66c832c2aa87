-- A table that is made for this many pairs has capacity for them.
use Rattle.std.proofs.Common.{ℕ, zero, suc, ◌≤◌, arith}
use Rattle.std.proofs.lemmas.Grind.{common_steps}
use Rattle.halfbrown.specs.Capacity.{capacity_of, least_buckets, bucket_count_for_one_more, least_table_capacity}

more_enough : (n buckets : ℕ) → n ≤ capacity_of buckets → suc n ≤ capacity_of (bucket_count_for_one_more n buckets)
more_enough n buckets enough = grind (arith, common_steps, enough)

pub enough : (n : ℕ) → n ≤ least_table_capacity n
unfolding least_buckets
enough zero = omega arith
enough (suc n) = more_enough n (least_buckets n) (enough n)
