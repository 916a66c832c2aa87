-- Distances round the buckets, where the first follows the last.
use Rattle.half_store.proofs.Common.{◌≡◌, ◌≤◌, ◌+◌, arith, ℕ, ◌-◌, ◌<◌, suc, ◌⊎◌, nat_tests}
use Rattle.half_store.specs.Reach.{probe_distance, bucket_after}

-- what `probe_distance` is
abbrev pub DistanceIs : ℕ → ℕ → ℕ → ℕ → Type 0
DistanceIs m a b d = ((a ≤ b) × (d + a ≡ b)) ⊎ ((b < a) × (d + a ≡ b + m))

pub distance_is : (m a b : ℕ) → a < m → DistanceIs m a b (probe_distance m a b)
unfolding probe_distance
distance_is m a b h = grind (arith, nat_tests)

-- what `bucket_after` is
abbrev pub AfterIs : ℕ → ℕ → ℕ → ℕ → Type 0
AfterIs m a k u = ((a + k < m) × (u ≡ a + k)) ⊎ ((m ≤ a + k) × (u + m ≡ a + k))

pub after_is : (m a k : ℕ) → AfterIs m a k (bucket_after m a k)
unfolding bucket_after
after_is m a k = grind (arith, nat_tests)

module _ (m a : ℕ) (in_a : a < m) where
  pub probe_distance-lt : (b : ℕ) → b < m → probe_distance m a b < m
  probe_distance-lt b h = omega (arith, distance_is m a b in_a)

  pub distance_self : probe_distance m a a ≡ 0
  distance_self = omega (arith, distance_is m a a in_a)

  pub bucket_after-lt : (k : ℕ) → k ≤ m → bucket_after m a k < m
  bucket_after-lt k h = omega (arith, after_is m a k)

  pub bucket_after-zero : bucket_after m a 0 ≡ a
  bucket_after-zero = omega (arith, after_is m a 0)

  pub after_next : (k : ℕ) → k < m → bucket_after m (bucket_after m a 1) k ≡ bucket_after m a (suc k)
  after_next k h = omega (arith, after_is m a 1, after_is m (bucket_after m a 1) k, after_is m a (suc k))

  pub probe_distance-bucket_after : (k : ℕ) → k < m → probe_distance m a (bucket_after m a k) ≡ k
  probe_distance-bucket_after k h = let b = bucket_after-lt k (omega arith) in
      omega (arith, after_is m a k, distance_is m a (bucket_after m a k) in_a)

  pub bucket_after-probe_distance : (b : ℕ) → b < m → bucket_after m a (probe_distance m a b) ≡ b
  bucket_after-probe_distance b h = omega (arith, distance_is m a b in_a, after_is m a (probe_distance m a b))

  pub distance_same : (b c : ℕ) → b < m → c < m → probe_distance m a b ≡ probe_distance m a c → b ≡ c
  distance_same b c p q e = omega (arith, distance_is m a b in_a, distance_is m a c in_a)

  -- the bucket from which t steps lead to a
  pub down-lt : (t : ℕ) → t ≤ m → bucket_after m a (m - t) < m
  down-lt t h = omega (arith, after_is m a (m - t))

  pub probe_distance-down : (t : ℕ) → t < m → probe_distance m (bucket_after m a (m - t)) a ≡ t
  probe_distance-down t h = let b = down-lt t (omega arith) in
      omega (arith, after_is m a (m - t), distance_is m (bucket_after m a (m - t)) a b)

  pub down-probe_distance : (b : ℕ) → b < m → bucket_after m a (m - probe_distance m b a) ≡ b
  down-probe_distance b h = omega (arith, distance_is m b a h, after_is m a (m - probe_distance m b a))

-- if another bucket is still ahead, the next one is one farther
pub next_farther : (m a b ahead next : ℕ) → a < m → b < m → ahead < m → probe_distance m a b < probe_distance m a ahead
    → next ≡ bucket_after m b 1
    → probe_distance m a next ≡ probe_distance m a b + 1
next_farther m a b ahead next in_a in_b in_ahead far e =
    omega (arith, after_is m b 1, distance_is m a b in_a, distance_is m a next in_a, distance_is m a ahead in_a)

-- a home from which p comes before e lies no farther from b than e does, if p does not
pub home_in_stretch : (m h p e b : ℕ) → h < m → p < m → e < m → b < m → probe_distance m h p < probe_distance m h e
    → probe_distance m p b < probe_distance m e b → probe_distance m h b < probe_distance m e b
home_in_stretch m h p e b in_h in_p in_e in_b x y =
    omega (arith, distance_is m h p in_h, distance_is m h e in_h, distance_is m p b in_p, distance_is m e b in_e, distance_is m h b in_h)

-- what comes before b on the way from its home is nearer to b than the home is
pub nearer_than_home : (m h p b : ℕ) → h < m → p < m → b < m → probe_distance m h p < probe_distance m h b
    → probe_distance m p b ≤ probe_distance m h b
nearer_than_home m h p b in_h in_p in_b x = omega (arith, distance_is m h p in_h, distance_is m h b in_h, distance_is m p b in_p)
