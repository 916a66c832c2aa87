-- The sums over all lists of homes, of the sizes of blocks and of those behind them, by the number of hashes.
use Rattle.std.proofs.Common.{◌≡◌, ℕ, suc, ◌+◌, ◌-◌, ◌*◌, ◌^◌, ◌<◌, ◌==◌, sym, ap, ◌∙◌, arith, List, [], ◌∷◌, length, sum_by, IsPermutation}
use Rattle.std.proofs.Math.Nat.{pow-suc}
use Rattle.std.proofs.lemmas.Grind.{common_steps}
use Rattle.half_store.specs.Reach.{home, bucket_after, reach}
use Rattle.half_store.proofs.lemmas.table.Counts.{tick}
use Rattle.half_store.proofs.lemmas.table.History.{reach-permutation}
use Rattle.half_mean.specs.Mean.{sum_below, sum_lists, total_reach}
use Rattle.half_mean.proofs.lemmas.Sums.{below-same, below-plus, below-const, lists-same, lists-plus, lists-times, lists-const, lists-swap, below-swap}
use Rattle.half_mean.proofs.lemmas.Sums.{entries-swap, IsOrderFree, with_entry, with_first, exchange}
use Rattle.half_mean.proofs.lemmas.Stops.{stop}
use Rattle.half_mean.proofs.lemmas.Blocks.{same, block, behind, block-entries, block-joined, same-behind, reach-blocks}

-- the sizes of the blocks of all hashes, in all tables of m buckets that hold n hashes
abbrev pub blocks : ℕ → ℕ → ℕ
blocks m n = sum_lists m n (λ w. sum_below m (λ h. block m w h))

-- the sizes of the blocks behind them
abbrev pub blocks_behind : ℕ → ℕ → ℕ
blocks_behind m n = sum_lists m n (λ w. sum_below m (λ h. block m w (behind m w h)))

stop-order : (m h : ℕ) (some others : List ℕ) → IsPermutation some others → stop m some h ≡ stop m others h
unfolding stop
stop-order m h some others p = ap (λ r. bucket_after m (home m h) (r - 1)) (reach-permutation some others m h p)

same-sym : (m : ℕ) (w : List ℕ) (a b : ℕ) → same m w a b ≡ same m w b a
same-sym m w a b = grind (arith, common_steps)

-- a sum over the buckets of a block that each hash has
module _ (m n : ℕ) (at : List ℕ → ℕ → ℕ) where
  -- the hashes whose block is that of x
  abbrev meets : ℕ → List ℕ → ℕ
  meets x w = sum_below m (λ h. same m w x (at w h))

  counted : (w : List ℕ) → length w ≡ suc n → suc n < m
      → sum_below m (λ h. block m w (at w h)) ≡ m + sum_by (λ x. meets x w) w
  counted w long few =
      omega (
        arith,
        below-same m (λ h. block m w (at w h)) (λ h. 1 + sum_by (λ x. same m w x (at w h)) w)
            (λ h l. block-entries m w (at w h) (omega arith)),
        below-plus m (λ h. 1) (λ h. sum_by (λ x. same m w x (at w h)) w),
        below-const m 1,
        entries-swap m (λ x h. same m w x (at w h)) w,
      )

  -- the entries of a block, over all lists, are counted by the first one
  by_first : suc n < m → IsOrderFree meets
      → sum_lists m (suc n) (λ w. sum_below m (λ h. block m w (at w h))) ≡ m ^ suc (suc n) + suc n * with_first m n meets
  by_first few free =
      lists-same m (suc n) _ _ (λ w long. counted w long few) ∙ lists-plus m (suc n) (λ w. m) (λ w. sum_by (λ x. meets x w) w)
      ∙ ap (λ s. s + with_entry m n meets) (lists-const m (suc n) m ∙ sym (pow-suc m (suc n)))
      ∙ ap (λ s. m ^ suc (suc n) + s) (exchange m n meets free)

module _ (m n : ℕ) where
  abbrev own : List ℕ → ℕ → ℕ
  own w h = h

  own-free : IsOrderFree (meets m n own)
  own-free x some others p i = sum_below m (λ h. tick (stop-order m x some others p i == stop-order m h some others p i))

  own-joined : (x : ℕ) (v : List ℕ) → length v ≡ n → suc n < m → meets m n own x (x ∷ v) ≡ block m v x + block m v (behind m v x)
  own-joined x v long few = ap (sum_below m) (λ i h. same-sym m (x ∷ v) x h i) ∙ block-joined m v x (omega arith)

  own-first : suc n < m → with_first m n (meets m n own) ≡ blocks m n + blocks_behind m n
  own-first few =
      let joined : with_first m n (meets m n own)
      ≡ sum_below m (λ x. sum_lists m n (λ v. block m v x) + sum_lists m n (λ v. block m v (behind m v x))) =
      below-same m _ _ (λ x l. lists-same m n (λ v. meets m n own x (x ∷ v)) (λ v. block m v x + block m v (behind m v x))
      (λ v long. own-joined x v long few) ∙ lists-plus m n (λ v. block m v x) (λ v. block m v (behind m v x))) in
      omega (
        arith,
        joined,
        below-plus m (λ x. sum_lists m n (λ v. block m v x)) (λ x. sum_lists m n (λ v. block m v (behind m v x))),
        lists-swap m n m (λ v x. block m v x),
        lists-swap m n m (λ v x. block m v (behind m v x)),
      )

  pub blocks-step : suc n < m → blocks m (suc n) ≡ m ^ suc (suc n) + suc n * (blocks m n + blocks_behind m n)
  blocks-step few = by_first m n own few own-free ∙ ap (λ s. m ^ suc (suc n) + suc n * s) (own-first few)

  behind-order : (h : ℕ) (some others : List ℕ) → IsPermutation some others
      → stop m some (behind m some h) ≡ stop m others (behind m others h)
  behind-order h some others p = stop-order m (behind m some h) some others p ∙ ap (λ e. stop m others (suc e)) (stop-order m h some others p)

  behind-free : IsOrderFree (meets m n (behind m))
  behind-free x some others p i = sum_below m (λ h. tick (stop-order m x some others p i == behind-order h some others p i))

  behind-first : suc (suc n) < m → with_first m n (meets m n (behind m)) ≡ blocks_behind m n
  behind-first few =
      let kept : with_first m n (meets m n (behind m)) ≡ sum_below m (λ x. sum_lists m n (λ v. sum_below m (λ h. same m v x (behind m v h)))) =
      below-same m _ _ (λ x l. lists-same m n (λ v. meets m n (behind m) x (x ∷ v)) (λ v. sum_below m (λ h. same m v x (behind m v h)))
      (λ v long. ap (sum_below m) (λ i h. same-behind m v x h (omega arith) i))) in
      kept ∙ sym (lists-swap m n m (λ v x. sum_below m (λ h. same m v x (behind m v h))))
      ∙ ap (sum_lists m n) (λ i v. below-swap m m (λ x h. same m v x (behind m v h)) i)

  pub behind-step : suc (suc n) < m → blocks_behind m (suc n) ≡ m ^ suc (suc n) + suc n * blocks_behind m n
  behind-step few = by_first m n (behind m) (omega arith) behind-free ∙ ap (λ s. m ^ suc (suc n) + suc n * s) (behind-first few)

  -- twice what all probes read
  pub reach-blocks_total : n < m → total_reach m m n * 2 ≡ m ^ suc n + blocks m n
  unfolding total_reach
  reach-blocks_total few =
      omega (
        arith,
        lists-times m n 2 (λ w. sum_below m (λ h. reach w m h)),
        lists-same m n (λ w. 2 * sum_below m (λ h. reach w m h)) (λ w. m + sum_below m (λ h. block m w h))
            (λ w long. let one = reach-blocks m w (omega arith) in omega arith),
        lists-plus m n (λ w. m) (λ w. sum_below m (λ h. block m w h)),
        lists-const m n m,
        pow-suc m n,
      )

-- if nothing is held, each block is one bucket
pub blocks-none : (m : ℕ) → 0 < m → (blocks m 0 ≡ m) × (blocks_behind m 0 ≡ m)
blocks-none m some = (
  below-same m (λ h. block m [] h) (λ h. 1) (λ h l. block-entries m [] h some) ∙ below-const m 1 ∙ omega arith,
  below-same m (λ h. block m [] (behind m [] h)) (λ h. 1) (λ h l. block-entries m [] (behind m [] h) some) ∙ below-const m 1 ∙ omega arith,
)
