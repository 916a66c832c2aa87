-- How seldom a probe from one home is long.
use Rattle.std.proofs.Common.{◌≡◌, ℕ, zero, suc, ◌+◌, ◌-◌, ◌*◌, ◌^◌, ◌<◌, ◌≤◌, ◌==◌, ltb, refl, sym, ap, ◌∙◌, arith, List, ◌∷◌, length, map, nat_lt, min, true}
use Rattle.std.proofs.Math.Nat.{pow-zero, mul-le-mul_right, mod-eq_of_lt}
use Rattle.std.proofs.lemmas.Bool.{eq-eqb, ne_eqb}
use Rattle.std.proofs.lemmas.Bool.Decides.{nat_tests}
use Rattle.std.proofs.lemmas.List.Folds.{fold-map}
use Rattle.half_store.specs.Reach.{home, probe_distance, bucket_after, load, reach}
use Rattle.half_store.proofs.lemmas.table.Circle.{probe_distance-lt, bucket_after-lt, down-lt, probe_distance-down, down-probe_distance}
use Rattle.half_store.proofs.lemmas.table.Counts.{tick, tick_yes}
use Rattle.half_store.proofs.lemmas.table.Filled.{crowd_of_probe}
use Rattle.half_store.proofs.lemmas.table.Slots.{home-lt}
use Rattle.half_store.proofs.lemmas.table.Sums.{below-one}
use Rattle.half_mean.specs.Mean.{sum_below, sum_lists}
use Rattle.half_mean.specs.Tail.{reads_more_than, decay, TailIsAtMost}
use Rattle.half_mean.proofs.lemmas.Sums.{below-same, below-swap, lists-le, lists-const}
use Rattle.half_mean.proofs.lemmas.Powers.{tail_of_weight}
use Rattle.half_mean.proofs.lemmas.Crowds.{entries_below, crowded, crowded-yes, few_crowds, tick-le}

-- how far it is from the home of a hash up to a bucket
abbrev up_to : ℕ → ℕ → ℕ → ℕ
up_to m b x = probe_distance m (home m x) b

up_to-is : (m b x : ℕ) → x < m → up_to m b x ≡ probe_distance m x b
up_to-is m b x in_x = ap (λ y. probe_distance m y b) (mod-eq_of_lt in_x)

below-load : (m b t : ℕ) (w : List ℕ) → entries_below t (map (up_to m b) w) ≡ load w m b t
unfolding load
below-load m b t w = fold-map (λ s x. s + tick (ltb x t)) (up_to m b) 0 w

module _ (m b : ℕ) (in_b : b < m) where
  -- each distance up to a bucket comes once
  distances : (g : ℕ → ℕ) → sum_below m (λ x. g (up_to m b x)) ≡ sum_below m g
  distances g =
      let far : ℕ → ℕ = λ x. probe_distance m x b in
      let term : ℕ → ℕ → ℕ = λ x k. tick (far x == k) * g k in
      let of_home : (x : ℕ) → x < m → g (up_to m b x) ≡ sum_below m (λ k. term x k) = λ x in_x.
      ap g (up_to-is m b x in_x) ∙ sym (below-one m (far x) (term x) (probe_distance-lt m x in_x b in_b)
      (λ k l ne. rw (ne_eqb (far x) k (λ e. ne (sym e))) (omega arith)) ∙ rw (eq-eqb _ (far x) refl) (omega arith)) in
      let of_distance : (k : ℕ) → k < m → sum_below m (λ x. term x k) ≡ g k = λ k in_k.
      let x : ℕ = bucket_after m b (m - k) in
      below-one m x (λ y. term y k) (down-lt m b in_b k (omega arith)) (λ y l ne. rw (ne_eqb (far y) k (λ e.
      ne (sym (down-probe_distance m b in_b y l) ∙ ap (λ d. bucket_after m b (m - d)) e))) (omega arith))
      ∙ rw (eq-eqb (far x) k (probe_distance-down m b in_b k in_k)) (omega arith) in
      below-same m _ _ of_home ∙ below-swap m m term ∙ below-same m _ _ of_distance

  lists-distances : (n : ℕ) (f : List ℕ → ℕ) → sum_lists m n (λ w. f (map (up_to m b) w)) ≡ sum_lists m n f
  lists-distances zero f = refl
  lists-distances (suc n) f =
      ap (sum_below m) (λ i x. lists-distances n (λ w. f (up_to m b x ∷ w)) i) ∙ distances (λ y. sum_lists m n (λ w. f (y ∷ w)))

-- the last of the first `d` buckets from the home of a hash
abbrev last : ℕ → ℕ → ℕ → ℕ
last m h d = bucket_after m (home m h) (min m (d - 1))

crowd-last : (m : ℕ) (w : List ℕ) (h d : ℕ) → length w < m → 1 ≤ d → d < reach w m h → crowded d m (map (up_to m (last m h d)) w) ≡ true
crowd-last m w h d few some long =
    let crowd = crowd_of_probe m w h few d long in
    let near : min m (d - 1) ≡ d - 1 = omega (arith, crowd.1, crowd.2) in
    let size : ℕ = crowd.0 in
    rw near (crowded-yes d size m _ (omega (arith, crowd.1)) crowd.1 (omega (arith, crowd.2))
    (rw (below-load m (bucket_after m (home m h) (d - 1)) size w) crowd.3))

-- a probe from a home is long for at most this part of all lists
pub long_from : (q m n h d : ℕ) → 1 ≤ q → n < m → suc q * n ≤ q * m
    → TailIsAtMost (suc q) d (sum_lists m n (λ w. reads_more_than d (reach w m h))) (m ^ n)
long_from q m n h zero some few small =
    let all = lists-le m n (λ w. reads_more_than 0 (reach w m h)) (λ w. 1) (λ w l. tick-le (nat_lt 0 (reach w m h))) in
    rw (pow-zero (decay (suc q)), pow-zero (decay (suc q) - 1)) (omega (arith, lists-const m n 1))
long_from q m n h (suc d) some few small =
    let b : ℕ = last m h (suc d) in
    let in_b = bucket_after-lt m (home m h) (home-lt m h (omega arith)) (min m (suc d - 1)) (omega arith) in
    let crowd : List ℕ → ℕ = λ w. tick (crowded (suc d) m w) in
    let all = lists-le m n (λ w. reads_more_than (suc d) (reach w m h)) (λ w. crowd (map (up_to m b) w))
    (λ w l. grind (arith, nat_tests, tick_yes, crowd-last m w h (suc d) (omega arith) (omega arith))) in
    let less = mul-le-mul_right (decay (suc q) ^ suc d) all in
    let most = tail_of_weight q (suc d) m n (sum_lists m n crowd) some small (few_crowds q (suc d) (omega arith) m n (omega arith)) in
    omega (arith, ap (λ s. s * decay (suc q) ^ suc d) (lists-distances m b in_b n crowd))
