-- Blocks: the buckets from which probes end at one empty bucket.
use Rattle.std.proofs.Common.{◌≡◌, ℕ, zero, suc, ◌+◌, ◌*◌, ◌<◌, ◌≤◌, Bool, ◌==◌, ltb, refl, sym, ap, ◌∙◌, subst, arith}
use Rattle.std.proofs.Common.{List, ◌∷◌, length, sum_by}
use Rattle.std.proofs.Math.Nat.{mod-eq_of_lt}
use Rattle.std.proofs.lemmas.Grind.{common_steps}
use Rattle.std.proofs.lemmas.Bool.{ne_eqb, eq-eqb}
use Rattle.std.proofs.lemmas.Bool.Decides.{nat_tests}
use Rattle.half_store.specs.Reach.{probe_distance, reach}
use Rattle.half_store.proofs.lemmas.table.Circle.{distance_is, probe_distance-lt}
use Rattle.half_store.proofs.lemmas.table.Counts.{count_to, stretch_size, tick}
use Rattle.half_store.proofs.lemmas.table.Sums.{below-one}
use Rattle.half_mean.specs.Mean.{sum_below}
use Rattle.half_mean.proofs.lemmas.Sums.{below-same, below-plus, below-const, below-swap}
use Rattle.half_mean.proofs.lemmas.Stops.{stop, ends_with, next-other, stop-joins, stop-stays, next-apart}

-- 1 if probes for both hashes end at one bucket
abbrev pub same : ℕ → List ℕ → ℕ → ℕ → ℕ
same m w a b = tick (stop m w a == stop m w b)

-- the size of the block of a hash
abbrev pub block : ℕ → List ℕ → ℕ → ℕ
block m w h = sum_below m (λ b. same m w b h)

-- a hash of the block behind that of a hash
abbrev pub behind : ℕ → List ℕ → ℕ → ℕ
behind m w h = suc (stop m w h)

count_to-below : (Q : ℕ → Bool) (m : ℕ) → count_to Q m ≡ sum_below m (λ b. tick (Q b))
count_to-below Q zero = refl
count_to-below Q (suc m) = omega (arith, count_to-below Q m)

-- a block is home to one entry less than it has buckets
pub block-entries : (m : ℕ) (w : List ℕ) (h : ℕ) → length w < m → block m w h ≡ 1 + sum_by (λ x. same m w x h) w
block-entries m w h few =
    let t = ends_with m w few in
    omega (arith, t.entries h, count_to-below (λ b. stop m w b == stop m w h) m)

module _ (m : ℕ) (v : List ℕ) (x : ℕ) where
  -- an insertion joins two blocks
  same-joined : (b : ℕ) → length v + 1 < m → same m (x ∷ v) b x ≡ same m v b x + same m v b (behind m v x)
  same-joined b few = grind (arith, common_steps, nat_tests, next-other, stop-joins, stop-stays)

  pub block-joined : length v + 1 < m → block m (x ∷ v) x ≡ block m v x + block m v (behind m v x)
  block-joined few = ap (sum_below m) (λ i b. same-joined b few i) ∙ below-plus m (λ b. same m v b x) (λ b. same m v b (behind m v x))

  -- if three buckets are empty, the block of a hash is behind another after its insertion exactly if it was before
  pub same-behind : (h : ℕ) → length v + 2 < m → same m (x ∷ v) x (behind m (x ∷ v) h) ≡ same m v x (behind m v h)
  same-behind h few = grind (arith, common_steps, nat_tests, next-other, stop-joins, stop-stays, next-apart)

module _ (m : ℕ) (w : List ℕ) (few : length w < m) where
  -- how far the empty bucket is at which a probe from a bucket ends
  abbrev far : ℕ → ℕ
  far b = probe_distance m b (stop m w b)

  -- 1 if one bucket lies on the way from another
  abbrev on_way : ℕ → ℕ → ℕ
  on_way h b = tick (ltb (probe_distance m b (stop m w h)) (far h))

  way-same : (h b : ℕ) → h < m → b < m → probe_distance m b (stop m w h) < far h → stop m w b ≡ stop m w h
  way-same h b in_h in_b near =
      let t = ends_with m w few in
      let s : ℕ = stop m w h in
      let r : ℕ = stop m w b in
      let first_h = subst (λ n. probe_distance m n s ≤ probe_distance m n r) (mod-eq_of_lt in_h) (t.first h r (t.inside b) (t.vacant b)) in
      let first_b = subst (λ n. probe_distance m n r ≤ probe_distance m n s) (mod-eq_of_lt in_b) (t.first b s (t.inside h) (t.vacant h)) in
      omega (arith, t.inside h, t.inside b, distance_is)

  same-start : (h b e : ℕ) → h < m → b < m → probe_distance m b e ≡ probe_distance m h e → b ≡ h
  same-start h b e in_h in_b at = omega (arith, distance_is)

  -- of two buckets of one block one is on the way from the other, or they are one
  same-ways : (h b : ℕ) → h < m → b < m → same m w b h ≡ on_way h b + on_way b h + tick (b == h)
  same-ways h b in_h in_b =
      grind (arith, common_steps, nat_tests, way-same h b in_h in_b, way-same b h in_b in_h, same-start h b (stop m w h) in_h in_b)

  one_self : (h : ℕ) → h < m → sum_below m (λ b. tick (b == h)) ≡ 1
  one_self h in_h = below-one m h (λ b. tick (b == h)) in_h (λ b l ne. rw (ne_eqb b h ne) refl) ∙ rw (eq-eqb h h refl) refl

  ways : (h : ℕ) → h < m → sum_below m (on_way h) ≡ far h
  ways h in_h =
      let t = ends_with m w few in
      let within = probe_distance-lt m h in_h (stop m w h) (t.inside h) in
      sym (count_to-below (λ b. ltb (probe_distance m b (stop m w h)) (far h)) m)
      ∙ stretch_size m (stop m w h) (far h) (t.inside h) (omega arith)

  block-ways : (h : ℕ) → h < m → block m w h ≡ far h + sum_below m (λ b. on_way b h) + 1
  block-ways h in_h =
      let split = below-same m (λ b. same m w b h) (λ b. on_way h b + on_way b h + tick (b == h)) (λ b in_b. same-ways h b in_h in_b) in
      omega (
        arith,
        split,
        below-plus m (λ b. on_way h b + on_way b h) (λ b. tick (b == h)),
        below-plus m (on_way h) (λ b. on_way b h),
        ways h in_h,
        one_self h in_h,
      )

  read-far : (h : ℕ) → h < m → reach w m h ≡ far h + 1
  read-far h in_h = subst (λ b. reach w m h ≡ probe_distance m b (stop m w h) + 1) (mod-eq_of_lt in_h) ((ends_with m w few).read h)

  -- in a block of some size the probes read 1, 2, 3, .. buckets, up to its size
  pub reach-blocks : sum_below m (λ h. reach w m h) * 2 ≡ m + sum_below m (λ h. block m w h)
  reach-blocks =
      omega (
        arith,
        below-same m (λ h. reach w m h) (λ h. far h + 1) read-far,
        below-plus m far (λ h. 1),
        below-const m 1,
        below-same m (λ h. block m w h) (λ h. far h + sum_below m (λ b. on_way b h) + 1) block-ways,
        below-plus m (λ h. far h + sum_below m (λ b. on_way b h)) (λ h. 1),
        below-plus m far (λ h. sum_below m (λ b. on_way b h)),
        below-swap m m (λ h b. on_way b h),
        below-same m (λ b. sum_below m (on_way b)) far ways,
      )
