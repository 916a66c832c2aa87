-- How seldom a probe reads many buckets, if all lists of held hashes are equally likely. As in `Mean`, no law says how likely a
-- hash function makes a list.
use Rattle.std.specs.Prelude.{ℕ, zero, suc, ◌+◌, ◌-◌, ◌*◌, ◌^◌, ◌≤◌, List, max, nat_lt, if◌then◌else◌}
use Rattle.half_store.specs.Reach.{reach}
use Rattle.half_mean.specs.Mean.{sum_below, sum_lists, reach_cases, MeanIsAtMost, AtLoad}

-- 1 if more than `most` buckets are read, and otherwise 0
abbrev pub reads_more_than : (most read : ℕ) → ℕ
reads_more_than most read = if nat_lt most read then 1 else 0

-- in how many of all cases of `total_reach` an unsuccessful probe reads more than `most` buckets
unfoldable pub long_probes : (hashes buckets held most : ℕ) → ℕ
long_probes hashes buckets held most = sum_lists hashes held (λ list. sum_below hashes (λ hash. reads_more_than most (reach list buckets hash)))

-- the most buckets that a probe from one of the first `homes` buckets reads
abbrev pub longest_reach : (list : List ℕ) (buckets homes : ℕ) → ℕ
longest_reach list buckets zero = 0
longest_reach list buckets (suc home) = max (reach list buckets home) (longest_reach list buckets home)

-- for how many lists of `held` hashes some probe reads more than `most` buckets
unfoldable pub long_tables : (hashes buckets held most : ℕ) → ℕ
long_tables hashes buckets held most = sum_lists hashes held (λ list. reads_more_than most (longest_reach list buckets buckets))

-- if one bucket in `per_empty` is empty, each bucket more is read in at most the part `1 - 1 / decay` of the cases. That is 5/6
-- for 2, and 27/28 for 4
abbrev pub decay : (per_empty : ℕ) → ℕ
decay per_empty = per_empty * (2 * per_empty - 1)

-- `long` of `all` cases are at most the part `(1 - 1 / decay) ^ reads`
abbrev pub TailIsAtMost : (per_empty reads long all : ℕ) → Type 0
TailIsAtMost per_empty reads long all = MeanIsAtMost long all ((decay per_empty - 1) ^ reads) (decay per_empty ^ reads)

-- a probe reads more than `reads` buckets in at most that part of all cases
abbrev pub TailLaw : Type 0
TailLaw = (per_empty reads : ℕ) → 2 ≤ per_empty → AtLoad per_empty (λ hashes buckets held.
    TailIsAtMost per_empty reads (long_probes hashes buckets held reads) (reach_cases hashes held))

-- some probe of a table does for at most `factor buckets` times that part of all lists
abbrev pub LongestLaw : (factor : ℕ → ℕ) → Type 0
LongestLaw factor = (per_empty reads : ℕ) → 2 ≤ per_empty → AtLoad per_empty (λ hashes buckets held.
    TailIsAtMost per_empty reads (long_tables hashes buckets held reads) (factor buckets * hashes ^ held))

-- a probe reads more than `step * halvings` buckets in at most one of `2 ^ halvings` cases
abbrev pub LongProbesAreRare : (step hashes buckets held : ℕ) → Type 0
LongProbesAreRare step hashes buckets held = (halvings : ℕ)
    → long_probes hashes buckets held (step * halvings) * 2 ^ halvings ≤ reach_cases hashes held

-- some probe of a table of at most `2 ^ size` buckets reads more than `step * (size + halvings)` for at most one of
-- `2 ^ halvings` lists
abbrev pub LongTablesAreRare : (step hashes buckets held : ℕ) → Type 0
LongTablesAreRare step hashes buckets held = (size halvings : ℕ) → buckets ≤ 2 ^ size
    → long_tables hashes buckets held (step * (size + halvings)) * 2 ^ halvings ≤ hashes ^ held
