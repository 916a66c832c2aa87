-- How far a probe goes, by loads only.
use Rattle.half_store.proofs.Common.{◌≡◌, ◌≤◌, refl, arith, ℕ, ◌-◌, ◌<◌, zero, suc, ap, List, true, false, cases_eq, ne_eqb, bucket_after}
use Rattle.half_store.proofs.Common.{home, load, bucket_is_loaded}
use Rattle.half_store.specs.Reach.{loaded_within, loaded_run, reach, IsLoaded}
use Rattle.half_store.proofs.lemmas.table.Circle.{bucket_after-zero, after_next, bucket_after-lt}
use Rattle.half_store.proofs.Common.{nat_tests}

module _ (hashes : List ℕ) (m : ℕ) where
  pub loaded_within-yes : (last size most : ℕ) → 1 ≤ size → size ≤ most → size ≤ load hashes m last size
      → loaded_within hashes m last most ≡ true
  unfolding loaded_within
  loaded_within-yes last size zero one small full = absurd (omega arith)
  loaded_within-yes last size (suc most) one small full =
      grind (arith, nat_tests, cases_eq size (suc most), loaded_within-yes last size most)

  pub loaded_within-no : (last most : ℕ) → ((size : ℕ) → 1 ≤ size → size ≤ most → load hashes m last size < size)
      → loaded_within hashes m last most ≡ false
  unfolding loaded_within
  loaded_within-no last zero h = refl
  loaded_within-no last (suc most) h =
      grind (arith, nat_tests, h (suc most), loaded_within-no last most (λ size one small. h size one (omega arith)))

  pub bucket_is_loaded-yes : (last : ℕ) → IsLoaded hashes m last → bucket_is_loaded hashes m last ≡ true
  bucket_is_loaded-yes last (size, one, small, full) = loaded_within-yes last size (m - 1) one (omega arith) full

  pub bucket_is_loaded-no : (last : ℕ) → ((size : ℕ) → 1 ≤ size → size < m → load hashes m last size < size) → bucket_is_loaded hashes m last ≡ false
  bucket_is_loaded-no last h = loaded_within-no last (m - 1) (λ size one small. h size one (omega arith))

  -- the run of loaded buckets from b on, if d of them are loaded and the next is not
  pub loaded_run-is : (most d b : ℕ) → b < m → most < m → d ≤ most → ((k : ℕ) → k < d → bucket_is_loaded hashes m (bucket_after m b k) ≡ true)
      → (d < most → bucket_is_loaded hashes m (bucket_after m b d) ≡ false) → loaded_run hashes m most b ≡ d
  unfolding loaded_run
  loaded_run-is zero d b in_b in_most small run stop = omega arith
  loaded_run-is (suc most) zero b in_b in_most small run stop =
      let e : bucket_is_loaded hashes m b ≡ false = rw (← bucket_after-zero m b in_b) (stop (omega arith)) in
      rw e refl
  loaded_run-is (suc most) (suc d) b in_b in_most small run stop =
      let e : bucket_is_loaded hashes m b ≡ true = rw (← bucket_after-zero m b in_b) (run 0 (omega arith)) in
      let rest = loaded_run-is most d (bucket_after m b 1) (bucket_after-lt m b in_b 1 (omega arith)) (omega arith) (omega arith)
      (λ k h. rw (after_next m b in_b k (omega arith)) (run (suc k) (omega arith)))
      (λ h. rw (after_next m b in_b d (omega arith)) (stop (omega arith))) in
      rw e (ap suc rest)

  -- and if d of them are loaded
  pub loaded_run-ge : (most d b : ℕ) → b < m → most < m → d ≤ most → ((k : ℕ) → k < d → bucket_is_loaded hashes m (bucket_after m b k) ≡ true)
      → d ≤ loaded_run hashes m most b
  unfolding loaded_run
  loaded_run-ge most zero b in_b in_most small run = omega arith
  loaded_run-ge zero (suc d) b in_b in_most small run = omega arith
  loaded_run-ge (suc most) (suc d) b in_b in_most small run =
      let e : bucket_is_loaded hashes m b ≡ true = rw (← bucket_after-zero m b in_b) (run 0 (omega arith)) in
      let rest = loaded_run-ge most d (bucket_after m b 1) (bucket_after-lt m b in_b 1 (omega arith)) (omega arith) (omega arith)
      (λ k h. rw (after_next m b in_b k (omega arith)) (run (suc k) (omega arith))) in
      rw e (omega arith)

  pub reach-none : (hash : ℕ) → m ≡ 0 → reach hashes m hash ≡ 0
  unfolding reach
  reach-none hash e = rw e refl

  pub reach-some : (hash : ℕ) → 0 < m → reach hashes m hash ≡ suc (loaded_run hashes m (m - 1) (home m hash))
  unfolding reach
  reach-some hash h = rw (ne_eqb m 0 (λ e. omega arith)) refl
