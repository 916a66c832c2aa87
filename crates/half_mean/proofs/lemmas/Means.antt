-- The means, and the laws that say them.
use Rattle.std.proofs.Common.{◌≡◌, ℕ, zero, suc, ◌+◌, ◌-◌, ◌*◌, ◌^◌, ◌<◌, ◌≤◌, inl, inr, sym, ap, ◌∙◌, subst, arith, add-one, length}
use Rattle.std.proofs.Math.Nat.{pow-suc, mul_comm, mul-pos, mul-le-mul, mul-le-mul_left, mul-le-mul_right, le_of_mul-le-mul_right}
use Rattle.std.proofs.lemmas.Bool.{cases_lt}
use Rattle.std.proofs.lemmas.Nat.{pow-add, mul-pow, pow_pos, pow_below}
use Rattle.half_store.specs.Capacity.{IsBucketCount, capacity_of}
use Rattle.half_mean.specs.Mean.{sum_below, total_reach, MeanIsAtMost, MeanReachIsAtMost, MeanReachLaw, AtLoad, UpToHalf, UpToCapacity, HalfFullMeanLaw, CapacityMeanLaw, ExactMeanLaw, KnuthRecursionLaw, MeanCasesLaw}
use Rattle.half_mean.proofs.lemmas.Sums.{lists-const, lists-same, below-const}
use Rattle.half_mean.proofs.lemmas.Homes.{homes_law}
use Rattle.half_mean.proofs.lemmas.Recursion.{blocks, blocks_behind, blocks-step, behind-step, blocks-none, reach-blocks_total}
use Rattle.half_mean.proofs.lemmas.Algebra.{knuth, plain, knuth-zero, plain-step, knuth_plain-step, recursion, bound, pow-two}

-- the sizes of blocks add up to Knuth's sum
exact : (n m : ℕ) → n < m → (blocks m n ≡ knuth m n) × (suc n < m → blocks_behind m n ≡ plain m n)
exact zero m few =
    let none = blocks-none m few in
    let weighted = knuth-zero (λ k. k + 1) m 0 in
    let plainly = knuth-zero (λ k. 1) m 0 in
    (omega arith, λ more. omega arith)
exact (suc n) m few =
    let before = exact n m (omega arith) in
    let both : blocks m n + blocks_behind m n ≡ knuth m n + plain m n = (λ i. before.0 i + before.1 few i) in (
      blocks-step m n few ∙ ap (λ s. m ^ suc (suc n) + suc n * s) both ∙ sym (knuth_plain-step m n),
      λ more. behind-step m n more ∙ ap (λ s. m ^ suc (suc n) + suc n * s) (before.1 few) ∙ sym (plain-step m n),
    )

pub exact_mean_law : ExactMeanLaw (λ k. k + 1)
exact_mean_law m n few =
    let blocked = reach-blocks_total m n few in
    let is = (exact n m few).0 in
    subst (λ e. total_reach m m n * 2 ≡ m ^ e + knuth m n) (sym (add-one n)) (omega arith)

pub recursion_law : KnuthRecursionLaw (λ k. k + 1)
recursion_law m n few =
    let more : m - (n + 1) ≡ suc (m - (n + 2)) = omega arith in
    let three : suc (suc (suc n)) ≡ n + 3 = omega arith in
    (λ i. more i * knuth m (add-one n i)) ∙ recursion (m - (n + 2)) n m (omega arith)
    ∙ (λ i. m ^ three i + sym (add-one n) i * (m - (n + 2)) * knuth m n)

pub cases_law : MeanCasesLaw
cases_law hashes held = (
  lists-const hashes held 1 ∙ omega arith,
  lists-const hashes held (sum_below hashes (λ hash. 1)) ∙ ap (λ s. hashes ^ held * s) (below-const hashes 1 ∙ omega arith)
      ∙ sym (ap (λ e. hashes ^ e) (add-one held) ∙ pow-suc hashes held),
  lists-same hashes held (λ list. length list) (λ list. held) (λ list long. long) ∙ lists-const hashes held held
      ∙ mul_comm (hashes ^ held) held,
)

-- the bound if hashes are homes
pub mean_of_homes : (m n : ℕ) → n < m → MeanReachIsAtMost m m n ((m - n) ^ 2 + m ^ 2) (2 * (m - n) ^ 2)
mean_of_homes m n few =
    let empty : ℕ = m - suc n in
    let free : m - n ≡ suc empty = omega arith in
    let square : knuth m n * (m - n) ^ 2 ≡ knuth m n * (suc empty * suc empty) =
    ap (λ s. knuth m n * s) (ap (λ d. d ^ 2) free ∙ pow-two (suc empty)) in
    let all : m ^ suc (suc (suc n)) ≡ m ^ (n + 1) * m ^ 2 = ap (λ e. m ^ e) (omega arith) ∙ pow-add m (n + 1) 2 in
    let small : knuth m n * (m - n) ^ 2 ≤ m ^ (n + 1) * m ^ 2 = let bounded = bound empty n m (omega arith) in omega arith in
    let twice = ap (λ s. s * (m - n) ^ 2) (exact_mean_law m n few) in
    grind arith

pub scaled : (s t under over c : ℕ) → MeanIsAtMost t c over under → MeanIsAtMost (s * t) (s * c) over under
scaled s t under over c small = let more : s * (t * under) ≤ s * (over * c) = mul-le-mul_left s small in grind arith

-- a mean over hashes is that over homes
of_homes : (share m n over under : ℕ) → 0 < m → MeanReachIsAtMost m m n over under
    → MeanReachIsAtMost (share * m) m n over under
of_homes share m n over under some small =
    rw (homes_law share m n some, mul-pow share m (n + 1)) (scaled (share ^ (n + 1)) (total_reach m m n) under over (m ^ (n + 1)) small)

pub mean_law : MeanReachLaw
mean_law share m n few = of_homes share m n ((m - n) ^ 2 + m ^ 2) (2 * (m - n) ^ 2) (omega arith) (mean_of_homes m n few)

square-le : (t d m : ℕ) → m ≤ t * d → m ^ 2 ≤ t * t * d ^ 2
square-le t d m small =
    let both : m * m ≤ t * d * (t * d) = mul-le-mul small small in
    let same : t * t * d ^ 2 ≡ t * t * (d * d) = ap (λ s. t * t * s) (pow-two d) in
    grind (arith, pow-two m)

-- if at least one bucket in `t` is empty
mean_at_load : (t : ℕ) → AtLoad t (λ hashes m n. MeanReachIsAtMost hashes m n (1 + t * t) 2)
mean_at_load t share m n few load =
    let some : 0 < (m - n) * (m - n) = mul-pos (omega arith) (omega arith) in
    let mean = mean_of_homes m n few in
    let more = mul-le-mul_right (m ^ (n + 1)) (square-le t (m - n) m load) in
    of_homes share m n (1 + t * t) 2 (omega arith)
    (le_of_mul-le-mul_right {k = (m - n) ^ 2} (grind arith) (omega (arith, pow-two (m - n))))

-- a bucket count that hashes of some bits can have as homes divides their number
pub bucket_share : (bits m : ℕ) → 0 < m → IsBucketCount m → m ≤ 2 ^ bits → (share : ℕ) × (2 ^ bits ≡ share * m)
bucket_share bits m some (inl none) fits = absurd (omega arith)
bucket_share bits m some (inr (k, two, is)) fits =
    let enough : k ≤ bits = elim (cases_lt bits k) [ inl few ↦ absurd (let p = pow_below bits k few in omega arith) | inr le ↦ le ] in
    (2 ^ (bits - k), ap (λ e. 2 ^ e) (omega arith) ∙ pow-add 2 (bits - k) k ∙ ap (λ b. 2 ^ (bits - k) * b) (sym is))

-- a quarter of the buckets is beyond the capacity
quarter : (m n : ℕ) → 0 < m → IsBucketCount m → n ≤ capacity_of m → (n < m) × (m ≤ 4 * (m - n))
quarter m n some (inl none) within = absurd (omega arith)
quarter m n some (inr (k, two, is)) within =
    let four : 2 ^ k ≡ 2 ^ (k - 2) * 4 = ap (λ e. 2 ^ e) (omega arith) ∙ pow-add 2 (k - 2) 2 in
    let part = pow_pos (k - 2) in (omega arith, omega arith)

-- what holds if at least half of the buckets are empty, or a quarter
module _ (Law : ℕ → ℕ → ℕ → Type 0) where
  pub up_to_half : AtLoad 2 Law → UpToHalf Law
  up_to_half law share m n some half = law share m n (omega arith) (omega arith)

  pub up_to_capacity : AtLoad 4 Law → UpToCapacity Law
  up_to_capacity law bits m n some count fits within =
      let s = bucket_share bits m some count fits in
      let room = quarter m n some count within in
      rw s.1 (law s.0 m n room.0 room.1)

pub half_full_law : HalfFullMeanLaw 5 2
half_full_law = up_to_half (λ hashes m n. MeanReachIsAtMost hashes m n 5 2) (mean_at_load 2)

pub capacity_law : CapacityMeanLaw 17 2
capacity_law = up_to_capacity (λ hashes m n. MeanReachIsAtMost hashes m n 17 2) (mean_at_load 4)

pub ruleset mean_laws = (exact_mean_law, recursion_law, homes_law, mean_law, half_full_law, capacity_law)
