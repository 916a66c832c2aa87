-- How many buckets a search that finds nothing reads on average, if all lists of hashes are equally likely.
--
-- Keys do not appear in a mean, only the hashes that held keys may have. No law says how likely a builder makes them.
use Rattle.std.specs.Prelude.{◌≡◌, ℕ, ◌+◌, ◌^◌, ◌<◌, ◌≤◌, Bool, false, List, map}
use Rattle.std.specs.Map.{keys_of}
use Rattle.half_store.specs.Capacity.{buckets_of}
use Rattle.half_store.specs.PairLists.{index_of}
use Rattle.half_store.specs.Reach.{reach}
use Rattle.half_store.specs.Work.{Work}
use Rattle.half_mean.specs.Mean.{sum_below, sum_lists, total_reach, reach_cases, MeanIsAtMost}
use Rattle.halfbrown.specs.Costs.{IsSearchCost}
use Rattle.halfbrown.specs.Pairs.{holds_by}
use Rattle.halfbrown.specs.State.{State, IsTableCapacity}

-- the buckets that a search reads if it finds nothing in a table of this capacity, by the hashes of the held keys and the
-- searched hash
abbrev pub miss_reads : (capacity : ℕ) → List ℕ → (wanted : ℕ) → ℕ
miss_reads capacity hashes wanted = reach hashes (buckets_of capacity) wanted

-- those of all cases: each list of `held` hashes, and each searched hash. All hashes are below `hashes`
abbrev pub total_misses : (hashes capacity held : ℕ) → ℕ
total_misses hashes capacity held = sum_lists hashes held (λ list. sum_below hashes (λ wanted. miss_reads capacity list wanted))

-- that is what a search in a table reads, by any query for a key, if it finds none
abbrev pub MissLaw : {K : Type 0} (V : Type 0) {S : Type 0} (hash : S → K → ℕ) → Type 0
MissLaw {K} V {S} hash = (m : State K V S) (test : K → Bool) (wanted asked : ℕ) (before after : Work) → m.is_vec ≡ false → holds_by test m.pairs ≡ false
    → IsSearchCost hash wanted m (index_of test (keys_of m.pairs)) asked before after
    → after.looked ≡ before.looked + miss_reads m.capacity (map (hash m.builder) (keys_of m.pairs)) wanted

-- all searches read what all probes do, so what is known of the mean of a probe holds of a search
abbrev pub MissTotalLaw : Type 0
MissTotalLaw = (hashes capacity held : ℕ) → total_misses hashes capacity held ≡ total_reach hashes (buckets_of capacity) held

-- the law holds of all tables that are at most half full, for hashes of `bits` bits
abbrev pub InHalfFullTables : (Law : (hashes capacity held : ℕ) → Type 0) → Type 0
InHalfFullTables Law = (bits capacity held : ℕ) → IsTableCapacity capacity → 0 < capacity → buckets_of capacity ≤ 2 ^ bits
    → held + held ≤ buckets_of capacity → Law (2 ^ bits) capacity held

-- and of every table
abbrev pub InTables : (Law : (hashes capacity held : ℕ) → Type 0) → Type 0
InTables Law = (bits capacity held : ℕ) → IsTableCapacity capacity → 0 < capacity → buckets_of capacity ≤ 2 ^ bits → held ≤ capacity
    → Law (2 ^ bits) capacity held

-- the mean of a miss is at most `over / under`
abbrev pub MeanMissIsAtMost : (over under hashes capacity held : ℕ) → Type 0
MeanMissIsAtMost over under hashes capacity held = MeanIsAtMost (total_misses hashes capacity held) (reach_cases hashes held) over under
