-- Inequalities between powers.
use Rattle.std.proofs.Common.{◌≡◌, ℕ, zero, suc, ◌+◌, ◌-◌, ◌*◌, ◌^◌, ◌<◌, ◌≤◌, inl, inr, ap, subst, arith}
use Rattle.std.proofs.Math.Nat.{pow-zero, pow-succ', mul_left_comm, mul-le-mul_left, mul-le-mul_right, one-le-pow, le_of_mul-le-mul_left}
use Rattle.std.proofs.lemmas.Bool.{cases_eq}
use Rattle.std.proofs.lemmas.Nat.{mul-pow}
use Rattle.half_mean.specs.Tail.{decay, TailIsAtMost}

-- `(1 + b / a) ^ n` is at most `a / r`
flat : (n a b r : ℕ) → a ≡ n * b + r → r * (a + b) ^ n ≤ a * a ^ n
flat zero a b r is = rw (pow-zero a, pow-zero (a + b)) (omega arith)
flat (suc n) a b r is =
    let all = mul-le-mul_left a (flat n a b (b + r) (grind arith)) in
    let small : r * (b * (a + b) ^ n) ≤ a * (b * (a + b) ^ n) = mul-le-mul_right (b * (a + b) ^ n) (grind arith) in
    rw (pow-succ' a n, pow-succ' (a + b) n) (grind arith)

-- if `d` of the buckets are weighed `q + 1`, and the others `q`
module _ (q d : ℕ) where
  around : (n : ℕ) → n * (q * suc n + d) + d ≡ suc n * (q * n + d)
  around n = grind arith

  -- `(q + d / n) ^ n / q ^ n` rises with n
  rising : (n : ℕ) → 0 < n → q * ((q * n + d) ^ n * suc n ^ suc n) ≤ n ^ n * (q * suc n + d) ^ suc n
  rising n some =
      let y : ℕ = n * (q * suc n + d) in
      let line = flat n y d (n * suc n * q) (grind arith) in
      let small =
      rw (around n, mul-pow (suc n) (q * n + d) n, ← pow-succ' y n, mul-pow n (q * suc n + d) (suc n), pow-succ' n n) at line in
      le_of_mul-le-mul_left {k = n} (rw (pow-succ' (suc n) n) (grind arith)) some

  -- `n` pairs in `n` buckets weigh on average at least what they do one in each
  abbrev Heavy : ℕ → Type 0
  Heavy n = suc q ^ d * (q * n) ^ n ≤ q ^ d * (q * n + d) ^ n

  even : Heavy d
  even =
      let all : q * d + d ≡ suc q * d = grind arith in
      let is = mul_left_comm (suc q ^ d) (q ^ d) (d ^ d) in
      rw (all, mul-pow q d d, mul-pow (suc q) d d) (omega arith)

  more : (n : ℕ) → 0 < n → Heavy n → Heavy (suc n)
  more n some before =
      let all = mul-le-mul_left (q * suc n ^ suc n) (rw (mul-pow q n n) at before) in
      let rise = mul-le-mul_left (q ^ d) (rising n some) in
      rw (mul-pow q (suc n) (suc n), pow-succ' q n) (le_of_mul-le-mul_left {k = n ^ n} (grind arith) (one-le-pow n n some))

  pub heavy : (n : ℕ) → 1 ≤ d → d ≤ n → Heavy n
  heavy zero some fits = absurd (omega arith)
  heavy (suc n) some fits = elim (cases_eq d (suc n)) [ inl e ↦ subst Heavy e even | inr ne ↦ more n (omega arith) (heavy n some (omega arith)) ]

quotient-terms : (n r m : ℕ) → r + suc n ≡ 2 * m + 1 → r * suc m * (suc r + 2 * n) ≤ suc r * (r + 2 * suc n) * m
quotient-terms n r m is =
    let less : r * (suc r + 2 * n) * (r + suc n) ≡ r * (suc r + 2 * n) * (2 * m + 1) = ap (λ s. r * (suc r + 2 * n) * s) is in
    let more : suc r * (r + 2 * suc n) * (r + suc n) ≡ suc r * (r + 2 * suc n) * (2 * m + 1) = ap (λ s. suc r * (r + 2 * suc n) * s) is in
    grind arith

-- `(1 + 1 / m) ^ n` is at most `(r + 2 * n) / r`
quotient : (n r m : ℕ) → r + n ≡ 2 * m + 1 → r * suc m ^ n ≤ (r + 2 * n) * m ^ n
quotient zero r m is = rw (pow-zero m, pow-zero (suc m)) (omega arith)
quotient (suc n) r m is =
    let all = mul-le-mul_left (r * suc m) (quotient n (suc r) m (omega arith)) in
    let small = mul-le-mul_right (m ^ n) (quotient-terms n r m is) in
    rw (pow-succ' m n, pow-succ' (suc m) n) (le_of_mul-le-mul_left {k = suc r} (grind arith) (omega arith))

-- a stretch of `d` buckets, if one bucket in `q + 1` is empty
module _ (q : ℕ) where
  abbrev odd : ℕ
  odd = q + suc q

  next-sum : (n r m s t : ℕ) → r + n ≡ 2 * m + 1 → suc q * n ≤ m → r * s ≤ (r + 2 * n) * t → r * (odd * s) ≤ r * ((odd + 2) * t)
  next-sum n r m s t is few before =
      let all : odd * (r * s) ≤ odd * ((r + 2 * n) * t) = mul-le-mul_left odd before in
      let small : odd * (2 * n) * t ≤ 2 * r * t = mul-le-mul_right t (grind arith) in
      grind arith

  -- with one bucket more
  next : (n m : ℕ) → suc q * n ≤ m → odd * suc m ^ n ≤ (odd + 2) * m ^ n
  next n m few =
      let fits : n ≤ m = grind arith in
      let r : ℕ = 2 * m + 1 - n in
      let is : r + n ≡ 2 * m + 1 = omega arith in
      le_of_mul-le-mul_left (next-sum n r m (suc m ^ n) (m ^ n) is few (quotient n r m is)) (omega arith)

  shrink : (d m n : ℕ) → suc q * n ≤ m → odd ^ d * (m + d) ^ n ≤ (odd + 2) ^ d * m ^ n
  shrink zero m n few =
      let e : m + 0 ≡ m = omega arith in
      rw (e, pow-zero odd, pow-zero (odd + 2)) (omega arith)
  shrink (suc d) m n few =
      let e : m + suc d ≡ suc (m + d) = omega arith in
      let all = mul-le-mul_left (odd ^ d) (next n (m + d) (omega arith)) in
      let rest = mul-le-mul_left (odd + 2) (shrink d m n few) in
      rw (e, pow-succ' odd d, pow-succ' (odd + 2) d) (grind arith)

  -- what such a weight bounds is a part of all that falls with `d`
  pub tail_of_weight : (d m n some : ℕ) → 0 < q → suc q * n ≤ q * m → suc q ^ d * (q ^ n * some) ≤ q ^ d * (q * m + d) ^ n
      → TailIsAtMost (suc q) d some (m ^ n)
  tail_of_weight d m n some pos few bound =
      let is : decay (suc q) ≡ suc q * odd = ap (λ o. suc q * o) (omega arith) in
      let product : suc q * odd ≡ q * (odd + 2) + 1 = grind arith in
      let less : suc q * odd - 1 ≡ q * (odd + 2) = omega arith in
      let all = mul-le-mul_left (odd ^ d) bound in
      let rest = mul-le-mul_left (q ^ d) (rw (mul-pow q m n) at (shrink d (q * m) n few)) in
      rw (is, less, mul-pow (suc q) odd d, mul-pow q (odd + 2) d)
      (le_of_mul-le-mul_left {k = q ^ n} (grind arith) (one-le-pow n q pos))
