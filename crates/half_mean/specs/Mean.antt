-- How many buckets a probe reads on average, if all lists of held hashes are equally likely.
--
-- No law says how likely a hash function makes a list. A mean is stated without fractions, as the total over all cases and the
-- number of cases.
use Rattle.std.specs.Prelude.{◌≡◌, ℕ, zero, suc, ◌+◌, ◌-◌, ◌*◌, ◌^◌, ◌<◌, ◌≤◌, List, [], ◌∷◌, length}
use Rattle.half_store.specs.Capacity.{IsBucketCount, capacity_of}
use Rattle.half_store.specs.Reach.{reach}
pub use Rattle.half_store.specs.Reach.{filling_reads_in}
pub use Rattle.half_store.specs.Work.{sum_below}

-- the sum over all lists of `size` numbers below `count`
abbrev pub sum_lists : (count size : ℕ) → (List ℕ → ℕ) → ℕ
sum_lists count zero f = f []
sum_lists count (suc size) f = sum_below count (λ one. sum_lists count size (λ others. f (one ∷ others)))

-- the buckets that unsuccessful probes read in all cases: each list of `held` hashes in the table, and each searched hash. All
-- hashes are below `hashes`
unfoldable pub total_reach : (hashes buckets held : ℕ) → ℕ
total_reach hashes buckets held = sum_lists hashes held (λ list. sum_below hashes (λ hash. reach list buckets hash))

-- the number of these cases
abbrev pub reach_cases : (hashes held : ℕ) → ℕ
reach_cases hashes held = hashes ^ (held + 1)

-- the buckets that the insertions read in all cases: each list of `held` hashes below `hashes`, and each insertion of it
unfoldable pub total_filling : (hashes buckets held : ℕ) → ℕ
total_filling hashes buckets held = sum_lists hashes held (λ list. filling_reads_in buckets list)

-- the number of these cases
abbrev pub filling_cases : (hashes held : ℕ) → ℕ
filling_cases hashes held = held * hashes ^ held

-- the mean of `cases` numbers that add up to `total` is at most `over / under`
abbrev pub MeanIsAtMost : (total cases over under : ℕ) → Type 0
MeanIsAtMost total cases over under = total * under ≤ over * cases

-- an unsuccessful probe reads at most `over / under` buckets on average, if all lists of `held` hashes below `hashes` are
-- equally likely, and all searched hashes below `hashes`
abbrev pub MeanReachIsAtMost : (hashes buckets held over under : ℕ) → Type 0
MeanReachIsAtMost hashes buckets held over under = MeanIsAtMost (total_reach hashes buckets held) (reach_cases hashes held) over under

-- so does an insertion, of those that put a list of `held` hashes into an empty table, if all such lists are equally likely
abbrev pub MeanFillingIsAtMost : (hashes buckets held over under : ℕ) → Type 0
MeanFillingIsAtMost hashes buckets held over under = MeanIsAtMost (total_filling hashes buckets held) (filling_cases hashes held) over under

-- the numbers of cases, counted one by one
abbrev pub MeanCasesLaw : Type 0
MeanCasesLaw = (hashes held : ℕ) →
    (sum_lists hashes held (λ list. 1) ≡ hashes ^ held)
    × (sum_lists hashes held (λ list. sum_below hashes (λ hash. 1)) ≡ reach_cases hashes held)
    × (sum_lists hashes held (λ list. length list) ≡ filling_cases hashes held)

-- `number * (number - 1) * ..`, with `factors` factors
abbrev pub falling : (number factors : ℕ) → ℕ
falling number zero = 1
falling zero (suc factors) = 0
falling (suc number) (suc factors) = suc number * falling number factors

-- with the weights 1, 2, 3, .. this is Knuth's sum, `1 + 2 * n / m + 3 * n * (n - 1) / m ^ 2 + ..`, times `m ^ (n + 1)`
unfoldable pub knuth_sum : (weight : ℕ → ℕ) → (buckets held : ℕ) → ℕ
knuth_sum weight buckets held = sum_below (held + 1) (λ k. weight k * falling held k * buckets ^ (held + 1 - k))

-- the exact mean, if the hashes are the homes: half of 1 and of Knuth's sum
abbrev pub ExactMeanLaw : (weight : ℕ → ℕ) → Type 0
ExactMeanLaw weight = (buckets held : ℕ) → held < buckets
    → total_reach buckets buckets held * 2 ≡ reach_cases buckets held + knuth_sum weight buckets held

-- the recursion that Knuth's sum meets below the number of buckets
abbrev pub KnuthRecursionLaw : (weight : ℕ → ℕ) → Type 0
KnuthRecursionLaw weight = (buckets held : ℕ) → held + 1 < buckets
    → (buckets - (held + 1)) * knuth_sum weight buckets (held + 1)
    ≡ buckets ^ (held + 3) + (held + 1) * (buckets - (held + 2)) * knuth_sum weight buckets held

-- if each bucket is the home of `share` hashes, the mean is that of homes
abbrev pub HomesMeanLaw : Type 0
HomesMeanLaw = (share buckets held : ℕ) → 0 < buckets
    → total_reach (share * buckets) buckets held ≡ share ^ (held + 1) * total_reach buckets buckets held

-- the mean of a probe in a table of `m` buckets with `n` hashes is at most `(1 + (m / (m - n)) ^ 2) / 2`
abbrev pub MeanReachLaw : Type 0
MeanReachLaw = (share buckets held : ℕ) → held < buckets
    → MeanReachIsAtMost (share * buckets) buckets held ((buckets - held) ^ 2 + buckets ^ 2) (2 * (buckets - held) ^ 2)

-- the law holds of all tables with at least one empty bucket in `per_empty`, if each bucket is the home of `share` hashes
abbrev pub AtLoad : (per_empty : ℕ) (Law : (hashes buckets held : ℕ) → Type 0) → Type 0
AtLoad per_empty Law = (share buckets held : ℕ) → held < buckets → buckets ≤ per_empty * (buckets - held) → Law (share * buckets) buckets held

-- it holds of all that are at most half full
abbrev pub UpToHalf : (Law : (hashes buckets held : ℕ) → Type 0) → Type 0
UpToHalf Law = (share buckets held : ℕ) → 0 < buckets → held + held ≤ buckets → Law (share * buckets) buckets held

-- it holds of all within their capacity, for hashes of `bits` bits
abbrev pub UpToCapacity : (Law : (hashes buckets held : ℕ) → Type 0) → Type 0
UpToCapacity Law = (bits buckets held : ℕ) → 0 < buckets → IsBucketCount buckets → buckets ≤ 2 ^ bits → held ≤ capacity_of buckets
    → Law (2 ^ bits) buckets held

-- if at most half of the buckets are full, it is at most `over / under`
abbrev pub HalfFullMeanLaw : (over under : ℕ) → Type 0
HalfFullMeanLaw over under = UpToHalf (λ hashes buckets held. MeanReachIsAtMost hashes buckets held over under)

-- within the capacity of a table it is
abbrev pub CapacityMeanLaw : (over under : ℕ) → Type 0
CapacityMeanLaw over under = UpToCapacity (λ hashes buckets held. MeanReachIsAtMost hashes buckets held over under)

-- the mean of the insertions that put `n` hashes into an empty table of `m` buckets is at most `(1 + m / (m - n)) / 2`
abbrev pub MeanFillingLaw : Type 0
MeanFillingLaw = (share buckets held : ℕ) → held < buckets
    → MeanFillingIsAtMost (share * buckets) buckets held (buckets + (buckets - held)) (2 * (buckets - held))

-- up to the half of a table it is at most `over / under`
abbrev pub HalfFullFillingLaw : (over under : ℕ) → Type 0
HalfFullFillingLaw over under = UpToHalf (λ hashes buckets held. MeanFillingIsAtMost hashes buckets held over under)

-- up to the capacity of a table it is at most `over / under`
abbrev pub CapacityFillingLaw : (over under : ℕ) → Type 0
CapacityFillingLaw over under = UpToCapacity (λ hashes buckets held. MeanFillingIsAtMost hashes buckets held over under)

-- no bound over `under` holds that is smaller than `least / under`
abbrev pub IsLeastOver : (ℕ → ℕ → Type 0) → (least under : ℕ) → Type 0
IsLeastOver Law least under = (over : ℕ) → Law over under → least ≤ over
