-- Masks of bucket counts, which are powers of two.
use Rattle.half_store.proofs.Common.{◌≡◌, ◌≤◌, ◌+◌, inr, ◌∙◌, arith, ℕ, ◌-◌, ◌^◌, ◌<◌, inl, sym, ap, cases_lt, common_steps, IsBucketCount, probe_distance}
use Rattle.half_store.proofs.Common.{bucket_after}
use Rattle.std.proofs.Common.{◌%◌, bit_and}
use Rattle.std.proofs.Math.Nat.{pow-le-pow_right, mod-eq_of_lt}
use Rattle.std.proofs.lemmas.Nat.{and_mask}
use Rattle.half_store.proofs.lemmas.table.Circle.{distance_is, after_is}

-- the mask of a power of two is the remainder
pub mask_mod : (n m : ℕ) → IsBucketCount m → 0 < m → bit_and n (m - 1) ≡ n % m
mask_mod n m (inl e) h = absurd (omega arith)
mask_mod n m (inr (k, two, e)) h = ap (λ c. bit_and n (c - 1)) e ∙ and_mask n k ∙ ap (λ c. n % c) (sym e)

-- less than twice round
mod_once : (n m : ℕ) → m ≤ n → n < m + m → n % m ≡ n - m
mod_once n m ge lt = grind (arith, common_steps)

-- the probe distance from one bucket up to another
pub mask_distance : (m a b : ℕ) → IsBucketCount m → a < m → b < m → bit_and (b + (m - a)) (m - 1) ≡ probe_distance m a b
mask_distance m a b count in_a in_b =
    mask_mod (b + (m - a)) m count (omega arith)
    ∙ elim (cases_lt (b + (m - a)) m) [
      | inl l ↦ mod-eq_of_lt l ∙ omega (arith, distance_is m a b in_a)
      | inr ge ↦ mod_once (b + (m - a)) m (omega arith) (omega arith) ∙ omega (arith, distance_is m a b in_a)
    ]

-- the bucket after this one
pub mask_next : (m b : ℕ) → IsBucketCount m → b < m → bit_and (b + 1) (m - 1) ≡ bucket_after m b 1
mask_next m b count in_b = grind (arith, common_steps, after_is, mask_mod, mod-eq_of_lt, mod_once)

-- a bucket count below 2^64 is at most half of that
pub count-le_half : (m : ℕ) → IsBucketCount m → m < 2 ^ 64 → m ≤ 2 ^ 63
count-le_half m (inl e) h = omega arith
count-le_half m (inr (k, two, e)) h =
    elim (cases_lt k 64) [
      | inl l ↦ let low : k ≤ 63 = omega arith in let p : 2 ^ k ≤ 2 ^ 63 = pow-le-pow_right {n = 2} (omega arith) low in omega arith
      | inr ge ↦ let p : 2 ^ 64 ≤ 2 ^ k = pow-le-pow_right {n = 2} (omega arith) ge in absurd (omega arith)
    ]
