-- No smaller constants would do: there are tables whose means, computed by the recursions, are above them.
use Rattle.std.proofs.Common.{◌≡◌, ℕ, zero, suc, ◌+◌, ◌*◌, ◌^◌, ◌<◌, ◌≤◌, inl, inr, refl, ap, ◌∙◌, arith, add-one}
use Rattle.std.proofs.Math.Nat.{mul-le-mul_right}
use Rattle.std.proofs.lemmas.Bool.{cases_lt}
use borrow.Author.Tests.{ltb-true}
use Rattle.half_mean.specs.Mean.{total_reach, total_filling, reach_cases, filling_cases, HalfFullMeanLaw, CapacityMeanLaw, HalfFullFillingLaw, CapacityFillingLaw, IsLeastOver}
use Rattle.half_mean.proofs.lemmas.Algebra.{knuth, plain, knuth-zero, plain-step, knuth_plain-step}
use Rattle.half_mean.proofs.lemmas.Means.{exact_mean_law}
use Rattle.half_mean.proofs.lemmas.Filling.{filling-step, filling-none}

-- both sums, and twice what a filling reads, by the recursions
record Sums : Type 0 where
  one : ℕ
  weighted : ℕ
  filling : ℕ

abbrev next : ℕ → ℕ → Sums → Sums
next m n s = record {
  one = m ^ suc (suc n) + suc n * s.one;
  weighted = m ^ suc (suc n) + suc n * (s.weighted + s.one);
  filling = m ^ suc n + s.weighted + m * s.filling;
}

abbrev sums : ℕ → ℕ → Sums
sums m zero = record { one = m; weighted = m; filling = 0 }
sums m (suc n) = next m n (sums m n)

sums-are : (m n : ℕ) → n ≤ m → (plain m n ≡ (sums m n).one) × (knuth m n ≡ (sums m n).weighted) × (total_filling m m n * 2 ≡ (sums m n).filling)
sums-are m zero fits = (knuth-zero (λ k. 1) m 0 ∙ omega arith, knuth-zero (λ k. k + 1) m 0 ∙ omega arith, ap (λ f. f * 2) (filling-none m))
sums-are m (suc n) fits =
    let before = sums-are m n (omega arith) in
    let s : Sums = sums m n in
    let read = exact_mean_law m n (omega arith) ∙ ap (λ e. m ^ e + knuth m n) (add-one n) in (
      plain-step m n ∙ ap (λ x. m ^ suc (suc n) + suc n * x) before.0,
      knuth_plain-step m n ∙ (λ i. m ^ suc (suc n) + suc n * (before.1 i + before.0 i)),
      ap (λ f. f * 2) (filling-step m n) ∙ grind arith
          ∙ (λ i. (read ∙ ap (λ k. m ^ suc n + k) before.1) i + m * before.2 i),
    )

-- a mean is above `over / under` if a smaller one is
above : (less over total cases under : ℕ) → less * cases < total * under → total * under ≤ over * cases → suc less ≤ over
above less over total cases under more mean =
    elim (cases_lt less over) [ inl l ↦ l | inr ge ↦ let few : over * cases ≤ less * cases = mul-le-mul_right cases ge in absurd (omega arith) ]

read_by : (m n : ℕ) → n < m → total_reach m m n * 2 ≡ m ^ (n + 1) + (sums m n).weighted
read_by m n few = exact_mean_law m n few ∙ ap (λ k. m ^ (n + 1) + k) (sums-are m n (omega arith)).1

-- in 16 buckets, 8 of them full
pub half_full_least : IsLeastOver HalfFullMeanLaw 5 2
half_full_least over law =
    above 4 over (total_reach 16 16 8) (reach_cases 16 8) 2 (rw (read_by 16 8 (omega arith)) (ltb-true _ _ refl))
    (law 1 16 8 (omega arith) (omega arith))

-- in 512 buckets and 64, at their capacity
pub capacity_least : IsLeastOver CapacityMeanLaw 17 2
capacity_least over law =
    above 16 over (total_reach 512 512 384) (reach_cases 512 384) 2 (rw (read_by 512 384 (omega arith)) (ltb-true _ _ refl))
    (law 9 512 384 (omega arith) (inr (9, omega arith, refl)) (omega arith) (omega arith))

pub filling_least : IsLeastOver CapacityFillingLaw 5 2
filling_least over law =
    above 4 over (total_filling 64 64 48) (filling_cases 64 48) 2 (rw ((sums-are 64 48 (omega arith)).2) (ltb-true _ _ refl))
    (law 6 64 48 (omega arith) (inr (6, omega arith, refl)) (omega arith) (omega arith))

-- in 4 buckets, 2 of them full
pub half_filling_least : IsLeastOver HalfFullFillingLaw 3 2
half_filling_least over law =
    above 2 over (total_filling 4 4 2) (filling_cases 4 2) 2 (rw ((sums-are 4 2 (omega arith)).2) (ltb-true _ _ refl))
    (law 1 4 2 (omega arith) (omega arith))

pub ruleset least_laws = (half_full_least, capacity_least, filling_least, half_filling_least)
