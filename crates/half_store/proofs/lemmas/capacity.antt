-- Bucket counts and capacities: which count comes next, and which is the least that serves.
use Rattle.half_store.proofs.Common.{◌≡◌, ◌≤◌, ◌+◌, ◌*◌, inr, refl, ◌∙◌, arith, ℕ, ◌-◌, ◌^◌, ◌<◌, zero, suc, inl, sym, ap, cases_lt, nat_tests, capacity_of}
use Rattle.half_store.proofs.Common.{IsBucketCount, buckets_of}
use Rattle.std.proofs.Math.Nat.{pow-le-pow_right}
use Rattle.std.proofs.lemmas.Nat.{pow_pos, pow-add}
use Rattle.std.proofs.lemmas.Grind.{pow_more}
use Rattle.half_store.specs.Capacity.{next_bucket_count, bucket_count_for_one_more, least_buckets, IsLeastBucketCount}
use Rattle.half_store.specs.Capacity.{least_table_capacity}

-- a bucket count that is not 0 is at least 4
pub four-le_count : (m : ℕ) → IsBucketCount m → 0 < m → 4 ≤ m
four-le_count m (inl e) h = absurd (omega arith)
four-le_count m (inr (k, two, e)) h = let p : 2 ^ 2 ≤ 2 ^ k = pow-le-pow_right {n = 2} (omega arith) two in omega arith

-- a power of two above another is at least twice as large
pow-double : (i j : ℕ) → 2 ^ i < 2 ^ j → 2 * 2 ^ i ≤ 2 ^ j
pow-double i j h =
    elim (cases_lt i j) [
      | inl lt ↦ let p : 2 ^ (i + 1) ≤ 2 ^ j = pow-le-pow_right {n = 2} (omega arith) (omega arith) in omega (arith, pow_more 2 i)
      | inr ge ↦ let p : 2 ^ j ≤ 2 ^ i = pow-le-pow_right {n = 2} (omega arith) ge in absurd (omega arith)
    ]

pub next_bucket_count-some : (m : ℕ) → 0 < m → next_bucket_count m ≡ 2 * m
next_bucket_count-some m h = grind (arith, nat_tests)

-- the next bucket count is one
pub next_bucket_count-count : (m : ℕ) → IsBucketCount m → IsBucketCount (next_bucket_count m)
next_bucket_count-count m (inl e) = inr (2, omega arith, ap next_bucket_count e)
next_bucket_count-count m (inr (k, two, e)) =
    let p = pow_pos k in
    inr (k + 1, omega arith, next_bucket_count-some m (omega arith) ∙ omega (arith, pow_more 2 k))

-- no bucket count lies between one and the next
pub next_bucket_count-least : (m other : ℕ) → IsBucketCount m → IsBucketCount other → m < other → next_bucket_count m ≤ other
next_bucket_count-least m other (inl e) c h = rw e (four-le_count other c (omega arith))
next_bucket_count-least m other (inr (k, two, e)) (inl z) h = absurd (omega arith)
next_bucket_count-least m other (inr (k, two, e)) (inr (j, two_j, f)) h =
    let p = pow_pos k in omega (arith, next_bucket_count-some m (omega arith), pow-double k j (omega arith))

-- if the capacity is just filled, the next bucket count has capacity for one more
pub capacity_of-more : (m : ℕ) → IsBucketCount m → capacity_of m < capacity_of (next_bucket_count m)
capacity_of-more m (inl e) = rw e (omega arith)
capacity_of-more m (inr (k, two, e)) =
    let f = four-le_count m (inr (k, two, e)) (let p = pow_pos k in omega arith) in
    rw (next_bucket_count-some m (omega arith)) (omega arith)

pub IsLeastBucketCount-more : (n m : ℕ) → IsLeastBucketCount n m → IsLeastBucketCount (suc n) (bucket_count_for_one_more n m)
IsLeastBucketCount-more n m l =
    elim (cases_lt n (capacity_of m)) [
      | inl lt ↦
          let e : bucket_count_for_one_more n m ≡ m = grind (arith, nat_tests) in
          rw e record { count = l.count; serves = omega arith; least = λ o c s. l.least o c (omega arith) }
      | inr ge ↦
          let e : bucket_count_for_one_more n m ≡ next_bucket_count m = grind (arith, nat_tests) in
          let full : capacity_of m ≡ n = let s = l.serves in omega arith in
          rw e record {
            count = next_bucket_count-count m l.count;
            serves = let r = capacity_of-more m l.count in omega arith;
            least = λ o c s. next_bucket_count-least m o l.count c (omega arith);
          }
    ]

-- the function returns the least bucket count that serves
pub buckets_for-least : (n : ℕ) → IsLeastBucketCount n (least_buckets n)
unfolding least_buckets
buckets_for-least zero = record { count = inl refl; serves = omega arith; least = λ o c s. omega arith }
buckets_for-least (suc n) = IsLeastBucketCount-more n (least_buckets n) (buckets_for-least n)

pub buckets_for-is : (n m : ℕ) → IsLeastBucketCount n m → m ≡ least_buckets n
buckets_for-is n m l =
    let o = buckets_for-least n in omega (arith, l.least (least_buckets n) o.count o.serves, o.least m l.count l.serves)

-- a bucket count is a multiple of 4
pub quarter : (m : ℕ) → IsBucketCount m → (q : ℕ) × (m ≡ 4 * q)
quarter m (inl e) = (0, omega arith)
quarter m (inr (k, two, e)) =
    let j = k - 2 in
    let split : j + 2 ≡ k = omega arith in
    let p : 2 ^ k ≡ 2 ^ j * 4 = ap (λ x. 2 ^ x) (sym split) ∙ pow-add 2 j 2 in
    (2 ^ j, omega arith)

-- the capacity tells the buckets
pub buckets_of-capacity_of : (m : ℕ) → IsBucketCount m → buckets_of (capacity_of m) ≡ m
buckets_of-capacity_of m c =
    let q = (quarter m c).0 in
    let e : m ≡ 4 * q = (quarter m c).1 in
    rw e (omega arith)

-- a bucket count is the least that serves as many pairs as its capacity
capacity_of-least : (m : ℕ) → IsBucketCount m → IsLeastBucketCount (capacity_of m) m
capacity_of-least m count = record {
  count = count;
  serves = omega arith;
  least = λ other is serves. elim (cases_lt other m) [
    | inl below ↦
        absurd (omega (arith, next_bucket_count-least other m is count below, capacity_of-more other is))
    | inr ge ↦ ge
  ];
}

-- if the buckets are just filled, one pair more needs the next bucket count
pub buckets_for-grown : (m : ℕ) → IsBucketCount m → least_buckets (suc (capacity_of m)) ≡ next_bucket_count m
unfolding least_buckets
buckets_for-grown m c = rw (← buckets_for-is (capacity_of m) m (capacity_of-least m c)) (grind (arith, nat_tests))

-- the capacity of a bucket count is one of the series
pub capacity_for-capacity_of : (m : ℕ) → IsBucketCount m → capacity_of m ≡ least_table_capacity (capacity_of m)
capacity_for-capacity_of m count = ap capacity_of (buckets_for-is (capacity_of m) m (capacity_of-least m count))
