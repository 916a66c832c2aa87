-- What Knuth's sum is: its recursion, and a bound.
use Rattle.std.proofs.Common.{◌≡◌, ℕ, zero, suc, ◌+◌, ◌-◌, ◌*◌, ◌^◌, ◌≤◌, sym, ap, ◌∙◌, arith, add-one}
use Rattle.std.proofs.Math.Nat.{pow-suc, pow-succ', pow-zero, mul-le-mul_left}
use Rattle.half_mean.specs.Mean.{sum_below, falling, knuth_sum}
use Rattle.half_mean.proofs.lemmas.Sums.{below-same, below-plus, below-times, below-first}

-- Knuth's sum has the weights 1, 2, 3, ..; that with the weights 1, 1, 1, .. goes with it
abbrev pub knuth : ℕ → ℕ → ℕ
knuth m n = knuth_sum (λ k. k + 1) m n

abbrev pub plain : ℕ → ℕ → ℕ
plain m n = knuth_sum (λ k. 1) m n

module _ (weight : ℕ → ℕ) (m n : ℕ) where
  term-step : (k : ℕ) → weight (suc k) * falling (suc n) (suc k) * m ^ (suc n + 1 - suc k) ≡ suc n * (weight (suc k) * falling n k * m ^ (n + 1 - k))
  term-step k =
      let less : suc n + 1 - suc k ≡ n + 1 - k = omega arith in
      ap (λ p. weight (suc k) * falling (suc n) (suc k) * m ^ p) less ∙ grind arith

  knuth-step : knuth_sum weight m (suc n) ≡ weight 0 * m ^ suc (suc n) + suc n * knuth_sum (λ k. weight (suc k)) m n
  unfolding knuth_sum
  knuth-step =
      let term : ℕ → ℕ = λ k. weight k * falling (suc n) k * m ^ (suc n + 1 - k) in
      let below : ℕ → ℕ = λ k. weight (suc k) * falling n k * m ^ (n + 1 - k) in
      let first : term 0 ≡ weight 0 * m ^ suc (suc n) =
      ap (λ e. weight 0 * 1 * m ^ e) {y = suc (suc n)} (omega arith) ∙ grind arith in
      let others : sum_below (suc n) (λ k. term (suc k)) ≡ suc n * sum_below (suc n) below =
      below-same (suc n) (λ k. term (suc k)) (λ k. suc n * below k) (λ k l. term-step k) ∙ below-times (suc n) (suc n) below in
      ap (λ count. sum_below count term) (add-one (suc n)) ∙ below-first (suc n) term
      ∙ (λ i. first i + others i) ∙ ap (λ count. weight 0 * m ^ suc (suc n) + suc n * sum_below count below) (sym (add-one n))

  pub knuth-zero : knuth_sum weight m 0 ≡ weight 0 * m
  unfolding knuth_sum
  knuth-zero = grind (arith, pow-suc m 0, pow-zero m)

knuth-plus : (f g : ℕ → ℕ) (m n : ℕ) → knuth_sum (λ k. f k + g k) m n ≡ knuth_sum f m n + knuth_sum g m n
unfolding knuth_sum
knuth-plus f g m n =
    below-same (n + 1) _ _ (λ k l. grind arith)
    ∙ below-plus (n + 1) (λ k. f k * falling n k * m ^ (n + 1 - k)) (λ k. g k * falling n k * m ^ (n + 1 - k))

module _ (m n : ℕ) where
  pub plain-step : plain m (suc n) ≡ m ^ suc (suc n) + suc n * plain m n
  plain-step = knuth-step (λ k. 1) m n ∙ omega arith

  pub knuth_plain-step : knuth m (suc n) ≡ m ^ suc (suc n) + suc n * (knuth m n + plain m n)
  knuth_plain-step =
      let shifted : (k : ℕ) → suc k + 1 ≡ k + 1 + 1 = λ k. omega arith in
      knuth-step (λ k. k + 1) m n ∙ ap (λ s. 1 * m ^ suc (suc n) + suc n * s)
      (ap (λ weight. knuth_sum weight m n) (λ i k. shifted k i) ∙ knuth-plus (λ k. k + 1) (λ k. 1) m n) ∙ omega arith

pub pow-two : (m : ℕ) → m ^ 2 ≡ m * m
pow-two m = pow-succ' m 1 ∙ ap (λ s. m * s) (pow-succ' m 0 ∙ ap (λ s. m * s) (pow-zero m) ∙ omega arith)

-- both sums together, if `d + 1` buckets are empty
total : (d n m : ℕ) → m ≡ d + suc n → d * (m ^ suc (suc n) + suc n * plain m n) + suc n * knuth m n ≡ m ^ suc (suc (suc n))
total d zero m is =
    let one : plain m 0 ≡ m = knuth-zero (λ k. 1) m 0 ∙ omega arith in
    let other : knuth m 0 ≡ m = knuth-zero (λ k. k + 1) m 0 ∙ omega arith in
    let square = pow-two m in
    (λ i. d * (m ^ 2 + 1 * one i) + 1 * other i)
    ∙ grind (arith, square, ap (λ s. s * m) is, ap (λ s. s * m ^ 2) is) ∙ sym (pow-succ' m 2)
total d (suc n) m is =
    let before = total (suc d) n m (omega arith) in
    let y : ℕ = m ^ suc (suc n) + suc n * plain m n in
    let joined : knuth m (suc n) ≡ y + suc n * knuth m n = knuth_plain-step m n ∙ omega arith in
    (λ i. d * (m ^ suc (suc (suc n)) + suc (suc n) * plain-step m n i) + suc (suc n) * joined i)
    ∙ grind (arith, ap (λ s. s * m ^ suc (suc (suc n))) is, ap (λ s. d * s) before, ap (λ s. suc (suc n) * s) before)
    ∙ sym (pow-succ' m (suc (suc (suc n))))

-- Knuth's recursion, if `d + 1` buckets are empty after an insertion
pub recursion : (d n m : ℕ) → m ≡ suc d + suc n → suc d * knuth m (suc n) ≡ m ^ suc (suc (suc n)) + suc n * d * knuth m n
recursion d n m is =
    let y : ℕ = m ^ suc (suc n) + suc n * plain m n in
    let joined : knuth m (suc n) ≡ y + suc n * knuth m n = knuth_plain-step m n ∙ omega arith in
    ap (λ s. suc d * s) joined ∙ grind (arith, total (suc d) n m is)

-- if `empty + 1` buckets are empty, Knuth's sum is at most `m ^ (n + 3)` by their square
pub bound : (empty n m : ℕ) → m ≡ suc empty + n → knuth m n * (suc empty * suc empty) ≤ m ^ suc (suc (suc n))
bound empty zero m is =
    let all : m ≡ suc empty = omega arith in
    let one : knuth m 0 ≡ m = knuth-zero (λ k. k + 1) m 0 ∙ omega arith in
    let same : knuth m 0 * (suc empty * suc empty) ≡ m ^ 3 =
    (λ i. one i * (sym all i * sym all i)) ∙ ap (λ s. m * s) (sym (pow-two m)) ∙ sym (pow-succ' m 2) in
    omega arith
bound empty (suc n) m is =
    let q : ℕ = m ^ suc (suc (suc n)) in
    let step = ap (λ r. suc empty * r) (recursion empty n m is) in
    let few = mul-le-mul_left (suc n) (bound (suc empty) n m (omega arith)) in
    grind (arith, step, few, ap (λ r. r * q) is, pow-succ' m (suc (suc (suc n))))
