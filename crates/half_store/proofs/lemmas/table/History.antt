-- The order of the held hashes does not matter to a probe, nor does which hashes of a home they are.
use Rattle.half_store.proofs.Common.{◌≡◌, refl, arith, ℕ, ◌-◌, zero, suc, List, nat_lt, cases_lt, reach, probe_distance, bucket_after}
use Rattle.half_store.proofs.Common.{home}
use Rattle.std.proofs.Common.{IsPermutation}
use Rattle.std.proofs.lemmas.List.Sorted.{sum_by-IsPermutation}
use Rattle.half_store.specs.Reach.{load, loaded_within, loaded_run}
use Rattle.half_store.proofs.lemmas.table.Counts.{tick}
use Rattle.half_store.proofs.lemmas.table.Reach.{reach-none, reach-some}
use Rattle.half_store.proofs.Common.{common_steps}

module _ (some others : List ℕ) (m : ℕ) (loads : (last size : ℕ) → load others m last size ≡ load some m last size) where
  loaded_within-loads : (last most : ℕ) → loaded_within some m last most ≡ loaded_within others m last most
  unfolding loaded_within
  loaded_within-loads last zero = refl
  loaded_within-loads last (suc most) = rw (loads last (suc most), loaded_within-loads last most) refl

  loaded_run-loads : (most bucket : ℕ) → loaded_run some m most bucket ≡ loaded_run others m most bucket
  unfolding loaded_run
  loaded_run-loads zero bucket = refl
  loaded_run-loads (suc most) bucket =
      rw (loaded_within-loads bucket (m - 1), loaded_run-loads most (bucket_after m bucket 1)) refl

  -- a probe reads equally many buckets if each stretch is home to equally many hashes
  pub reach-loads : (hash : ℕ) → reach some m hash ≡ reach others m hash
  reach-loads hash = grind (arith, common_steps, cases_lt 0 m, loaded_run-loads, reach-none, reach-some)

-- and that is so if they are in another order
pub reach-permutation : (some others : List ℕ) (m hash : ℕ) → IsPermutation some others → reach some m hash ≡ reach others m hash
unfolding load
reach-permutation some others m hash p =
    reach-loads some others m
    (λ last size. sum_by-IsPermutation (λ x. tick (nat_lt (probe_distance m (home m x) last) size)) some others p) hash
