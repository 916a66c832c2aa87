-- The mean over the insertions that fill an empty table.
use Rattle.std.proofs.Common.{◌≡◌, ℕ, zero, suc, ◌+◌, ◌-◌, ◌*◌, ◌^◌, ◌<◌, ◌≤◌, refl, sym, ap, ◌∙◌, arith, add-one}
use Rattle.std.proofs.Math.Nat.{pow-succ', mul_left_comm, mul-pos, mul-le-mul_left, mul-le-mul_right, le_of_mul-le-mul_right}
use Rattle.std.proofs.lemmas.Nat.{mul-pow}
use Rattle.half_store.specs.Reach.{reach}
use Rattle.half_mean.specs.Mean.{sum_below, sum_lists, total_reach, total_filling, filling_reads_in, filling_cases, MeanFillingIsAtMost, MeanFillingLaw, AtLoad, HalfFullFillingLaw, CapacityFillingLaw}
use Rattle.half_mean.proofs.lemmas.Sums.{below-plus, below-const, lists-plus, lists-swap}
use Rattle.half_mean.proofs.lemmas.Homes.{filling_homes}
use Rattle.half_mean.proofs.lemmas.Algebra.{pow-two}
use Rattle.half_mean.proofs.lemmas.Means.{mean_of_homes, scaled, up_to_half, up_to_capacity}

-- the last insertion, and those before it
pub filling-step : (m n : ℕ) → total_filling m m (suc n) ≡ total_reach m m n + m * total_filling m m n
unfolding total_filling total_reach
filling-step m n =
    ap (sum_below m) (λ i x. lists-plus m n (λ w. reach w m x) (λ w. filling_reads_in m w) i)
    ∙ below-plus m (λ x. sum_lists m n (λ w. reach w m x)) (λ x. sum_lists m n (λ w. filling_reads_in m w))
    ∙ (λ i. sym (lists-swap m n m (λ w x. reach w m x)) i + below-const m (sum_lists m n (λ w. filling_reads_in m w)) i)

filling-terms : (e n m : ℕ) → m ≡ suc e + n
    → e * (suc e * suc e + m * m) + e * suc e * ((m + suc e) * n) + m * m ≡ (m + e) * (suc n * (suc e * suc e))
filling-terms e n m is = rw is (grind arith)

-- the means before an insertion and of it, over a common divisor, if `e + 1` buckets are empty before it
filling-sum : (e n m r f c : ℕ) → m ≡ suc e + n → r * (2 * (suc e * suc e)) ≤ (suc e * suc e + m * m) * c
    → f * (2 * suc e) ≤ (m + suc e) * (n * c)
    → (r + f) * (2 * e) * (suc e * suc e) ≤ (m + e) * (suc n * c) * (suc e * suc e)
filling-sum e n m r f c is mean before =
    let one : e * (r * (2 * (suc e * suc e))) ≤ e * ((suc e * suc e + m * m) * c) = mul-le-mul_left e mean in
    let others : e * suc e * (f * (2 * suc e)) ≤ e * suc e * ((m + suc e) * (n * c)) = mul-le-mul_left (e * suc e) before in
    let terms = ap (λ s. c * s) (filling-terms e n m is) in
    grind arith

pub filling-none : (m : ℕ) → total_filling m m 0 ≡ 0
unfolding total_filling
filling-none m = refl

-- if hashes are homes
filling_of_homes : (n m : ℕ) → n < m → MeanFillingIsAtMost m m n (m + (m - n)) (2 * (m - n))
filling_of_homes zero m few = let none : total_filling m m 0 ≡ 0 = filling-none m in rw none (omega arith)
filling_of_homes (suc n) m few =
    let e : ℕ = m - suc n in
    let free : m - n ≡ suc e = omega arith in
    let square : (m - n) ^ 2 ≡ suc e * suc e = ap (λ d. d ^ 2) free ∙ pow-two (suc e) in
    let mean = rw (square, pow-two m, add-one n) at (mean_of_homes m n (omega arith)) in
    let before = rw (free, mul_left_comm m n (m ^ n), ← pow-succ' m n) at
    (scaled m (total_filling m m n) (2 * (m - n)) (m + (m - n)) (n * m ^ n) (filling_of_homes n m (omega arith))) in
    rw (filling-step m n) (le_of_mul-le-mul_right
    (filling-sum e n m (total_reach m m n) (m * total_filling m m n) (m ^ suc n) (omega arith) mean before)
    (mul-pos (omega arith) (omega arith)))

pub filling_law : MeanFillingLaw
filling_law share m n few =
    rw (filling_homes share m n, mul-pow share m n, mul_left_comm n (share ^ n) (m ^ n))
    (scaled (share ^ n) (total_filling m m n) (2 * (m - n)) (m + (m - n)) (n * m ^ n) (filling_of_homes n m few))

load-sum : (t m d f c : ℕ) → m ≤ t * d → f * (2 * d) ≤ (m + d) * c → f * 2 * d ≤ (1 + t) * c * d
load-sum t m d f c load mean =
    let most : (m + d) * c ≤ (t * d + d) * c = mul-le-mul_right c (omega arith) in
    grind arith

-- if at least one bucket in `t` is empty
filling_at_load : (t : ℕ) → AtLoad t (λ hashes m n. MeanFillingIsAtMost hashes m n (1 + t) 2)
filling_at_load t share m n few load =
    le_of_mul-le-mul_right
    (load-sum t m (m - n) (total_filling (share * m) m n) (filling_cases (share * m) n) load (filling_law share m n few)) (omega arith)

pub filling_half_full_law : HalfFullFillingLaw 3 2
filling_half_full_law = up_to_half (λ hashes m n. MeanFillingIsAtMost hashes m n 3 2) (filling_at_load 2)

pub filling_capacity_law : CapacityFillingLaw 5 2
filling_capacity_law = up_to_capacity (λ hashes m n. MeanFillingIsAtMost hashes m n 5 2) (filling_at_load 4)

pub ruleset filling_laws = (filling_law, filling_half_full_law, filling_capacity_law)
