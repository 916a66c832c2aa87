-- The laws of long probes.
use Rattle.std.proofs.Common.{◌≡◌, ℕ, zero, suc, ◌+◌, ◌-◌, ◌*◌, ◌^◌, ◌<◌, ◌≤◌, inl, inr, refl, ap, ◌∙◌, arith, add-one, List, max}
use Rattle.std.proofs.Math.Nat.{pow-zero, pow-succ', mul_comm, mul_left_comm, mul-le-mul, mul-le-mul_left, mul-le-mul_right, le_of_mul-le-mul_left, one-le-pow}
use Rattle.std.proofs.lemmas.Bool.{cases_lt, cases_eq, leb-true}
use Rattle.std.proofs.lemmas.Bool.Decides.{nat_tests}
use Rattle.std.proofs.lemmas.Nat.{mul-pow, pow-add, pow_pos}
use Rattle.half_store.specs.Reach.{home, reach}
use Rattle.half_store.proofs.lemmas.table.Reach.{reach-none}
use Rattle.half_store.proofs.lemmas.table.Slots.{home-lt}
use Rattle.half_mean.specs.Mean.{sum_below, sum_lists, AtLoad, UpToHalf, UpToCapacity}
use Rattle.half_mean.specs.Tail.{reads_more_than, long_probes, long_tables, longest_reach, decay, TailIsAtMost, TailLaw, LongestLaw, LongProbesAreRare, LongTablesAreRare}
use Rattle.half_mean.proofs.lemmas.Sums.{below-const, below-le, below-times, lists-le, lists-swap}
use Rattle.half_mean.proofs.lemmas.Homes.{homes, reach-homes, reach-home, lists-homes, probes-homes}
use Rattle.half_mean.proofs.lemmas.Means.{scaled, up_to_half, up_to_capacity}
use Rattle.half_mean.proofs.lemmas.Tail.{long_from}

probes-share : (share m n d : ℕ) → long_probes (share * m) m n d ≡ share ^ (n + 1) * long_probes m m n d
unfolding long_probes
probes-share share m n d =
    probes-homes share m n (λ w h. reads_more_than d (reach w m h)) (λ w h. ap (reads_more_than d) (reach-homes m w h))
    (λ w h. ap (reads_more_than d) (reach-home m w h))

longest-homes : (m k : ℕ) (w : List ℕ) → longest_reach (homes m w) m k ≡ longest_reach w m k
longest-homes m zero w = refl
longest-homes m (suc k) w = λ i. max (reach-homes m w k i) (longest-homes m k w i)

tables-share : (share m n d : ℕ) → long_tables (share * m) m n d ≡ share ^ n * long_tables m m n d
unfolding long_tables
tables-share share m n d =
    lists-homes share m n (λ w. reads_more_than d (longest_reach w m m)) (λ w. ap (reads_more_than d) (longest-homes m m w))

longest-ge : (w : List ℕ) (m k h : ℕ) → h < k → reach w m h ≤ longest_reach w m k
longest-ge w m zero h l = absurd (omega arith)
longest-ge w m (suc k) h l = grind (arith, cases_eq h k, ap (reach w m), longest-ge w m k h)

-- no probe reads more than the longest one
pub reach-longest : (w : List ℕ) (m h : ℕ) → reach w m h ≤ longest_reach w m m
reach-longest w m h =
    elim (cases_lt 0 m) [
      | inl some ↦ omega (arith, reach-home m w h, longest-ge w m m (home m h) (home-lt m h some))
      | inr none ↦ omega (arith, reach-none w m h (omega arith))
    ]

-- if the longest probe is long, some probe is
longest-le : (d m k : ℕ) (w : List ℕ) → reads_more_than d (longest_reach w m k) ≤ sum_below k (λ h. reads_more_than d (reach w m h))
longest-le d m zero w = grind (arith, nat_tests)
longest-le d m (suc k) w = grind (arith, nat_tests, longest-le d m k w)

tables-le : (m n d : ℕ) → long_tables m m n d ≤ long_probes m m n d
unfolding long_tables long_probes
tables-le m n d = lists-le m n _ _ (λ w l. longest-le d m m w)

at_most-load : (q n e m : ℕ) → m ≡ n + e → m ≤ suc q * e → suc q * n ≤ q * m
at_most-load q n e m is empty = let all : suc q * m ≡ suc q * (n + e) = ap (λ s. suc q * s) is in grind arith

-- if hashes are homes
probes-tail : (q m n d : ℕ) → 1 ≤ q → n < m → m ≤ suc q * (m - n) → TailIsAtMost (suc q) d (long_probes m m n d) (m * m ^ n)
unfolding long_probes
probes-tail q m n d some few empty =
    let x : ℕ = decay (suc q) ^ d in
    let y : ℕ = (decay (suc q) - 1) ^ d in
    let from : ℕ → ℕ = λ h. sum_lists m n (λ w. reads_more_than d (reach w m h)) in
    let each = below-le m (λ h. x * from h) (λ h. y * m ^ n)
    (λ h l. rw (mul_comm x (from h)) (long_from q m n h d some few (at_most-load q n (m - n) m (omega arith) empty))) in
    rw (lists-swap m n m (λ w h. reads_more_than d (reach w m h)), mul_comm (sum_below m from) x)
    (omega (arith, below-times m x from, below-const m (y * m ^ n), mul_left_comm m y (m ^ n)))

pub tail_law : TailLaw
tail_law zero d two share m n few empty = absurd (omega arith)
tail_law (suc q) d two share m n few empty =
    rw (probes-share share m n d, mul-pow share m (n + 1))
    (scaled (share ^ (n + 1)) (long_probes m m n d) (decay (suc q) ^ d) ((decay (suc q) - 1) ^ d) (m ^ (n + 1))
    (rw (add-one n, pow-succ' m n) (probes-tail q m n d (omega arith) few empty)))

pub longest_law : LongestLaw (λ buckets. buckets)
longest_law zero d two share m n few empty = absurd (omega arith)
longest_law (suc q) d two share m n few empty =
    let one = mul-le-mul_right (decay (suc q) ^ d) (tables-le m n d) in
    let tail = probes-tail q m n d (omega arith) few empty in
    rw (tables-share share m n d, mul-pow share m n, mul_left_comm m (share ^ n) (m ^ n))
    (scaled (share ^ n) (long_tables m m n d) (decay (suc q) ^ d) ((decay (suc q) - 1) ^ d) (m * m ^ n) (omega arith))

-- a part that halves with each step
halves : (step x y s : ℕ) → 2 * y ^ step ≤ x ^ step → 2 ^ s * y ^ (step * s) ≤ x ^ (step * s)
halves step x y zero less = let e : step * 0 ≡ 0 = omega arith in rw (e, pow-zero x, pow-zero y, pow-zero 2) (omega arith)
halves step x y (suc s) less =
    let e : step * suc s ≡ step + step * s = grind arith in
    let all = mul-le-mul less (halves step x y s less) in
    rw (e, pow-add x step (step * s), pow-add y step (step * s), pow-succ' 2 s) (grind arith)

-- if at least one bucket in k is empty, and the tail of k halves with each step
module _ (k step : ℕ) (two : 2 ≤ k) (some : 0 < decay k) (less : 2 * (decay k - 1) ^ step ≤ decay k ^ step) where
  halved : (s long all : ℕ) → TailIsAtMost k (step * s) long all → long * 2 ^ s ≤ all
  halved s long all tail =
      let more = mul-le-mul_left (2 ^ s) tail in
      let most = mul-le-mul_right all (halves step (decay k) (decay k - 1) s less) in
      le_of_mul-le-mul_left {k = decay k ^ (step * s)} (grind arith) (one-le-pow (step * s) (decay k) some)

  pub rare_probes : AtLoad k (LongProbesAreRare step)
  rare_probes share m n few empty s = halved s _ _ (tail_law k (step * s) two share m n few empty)

  of_size : (m size s long all : ℕ) → m ≤ 2 ^ size → long * 2 ^ (size + s) ≤ m * all → long * 2 ^ s ≤ all
  of_size m size s long all small halves =
      let most : m * all ≤ 2 ^ size * all = mul-le-mul_right all small in
      let parts : long * 2 ^ (size + s) ≡ 2 ^ size * (long * 2 ^ s) =
      ap (λ p. long * p) (pow-add 2 size s) ∙ mul_left_comm long (2 ^ size) (2 ^ s) in
      le_of_mul-le-mul_left {k = 2 ^ size} (omega arith) (pow_pos size)

  pub rare_tables : AtLoad k (LongTablesAreRare step)
  rare_tables share m n few empty size s small =
      of_size m size s _ _ small (halved (size + s) _ _ (longest_law k (step * (size + s)) two share m n few empty))

pub half_full_probes : UpToHalf (LongProbesAreRare 4)
half_full_probes = up_to_half (LongProbesAreRare 4) (rare_probes 2 4 (omega arith) (omega arith) (leb-true _ _ refl))

pub capacity_probes : UpToCapacity (LongProbesAreRare 20)
capacity_probes = up_to_capacity (LongProbesAreRare 20) (rare_probes 4 20 (omega arith) (omega arith) (leb-true _ _ refl))

pub half_full_tables : UpToHalf (LongTablesAreRare 4)
half_full_tables = up_to_half (LongTablesAreRare 4) (rare_tables 2 4 (omega arith) (omega arith) (leb-true _ _ refl))

pub capacity_tables : UpToCapacity (LongTablesAreRare 20)
capacity_tables = up_to_capacity (LongTablesAreRare 20) (rare_tables 4 20 (omega arith) (omega arith) (leb-true _ _ refl))

pub ruleset tail_laws = (tail_law, longest_law, half_full_probes, capacity_probes, half_full_tables, capacity_tables)
