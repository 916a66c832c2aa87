-- How seldom a search in a table reads many buckets, if all lists of hashes are equally likely.
--
-- Keys do not appear in it, only the hashes that held keys may have. No law says how likely a builder makes them.
use Rattle.std.specs.Prelude.{◌≡◌, ℕ, ◌+◌, ◌≤◌, false, List, Option, map}
use Rattle.std.specs.Map.{keys_of}
use Rattle.half_store.specs.Capacity.{buckets_of}
use Rattle.half_store.specs.Work.{Work}
use Rattle.half_mean.specs.Tail.{longest_reach, LongProbesAreRare, LongTablesAreRare}
use Rattle.halfbrown.specs.Costs.{IsSearchCost}
use Rattle.halfbrown.specs.State.{State}

-- a search that finds nothing in a table of this capacity reads what a probe does (`MissLaw`). It reads more than
-- `step * halvings` buckets in at most one of `2 ^ halvings` cases
abbrev pub LongMissesAreRare : (step hashes capacity held : ℕ) → Type 0
LongMissesAreRare step hashes capacity held = LongProbesAreRare step hashes (buckets_of capacity) held

-- the most buckets that a search reads in a table of this capacity, by the hashes of the held keys
abbrev pub most_reads : (capacity : ℕ) → List ℕ → ℕ
most_reads capacity hashes = longest_reach hashes (buckets_of capacity) (buckets_of capacity)

-- no search in a table reads more, by any query for a key, whatever it finds
abbrev pub MostReadsLaw : {K : Type 0} (V : Type 0) {S : Type 0} (hash : S → K → ℕ) → Type 0
MostReadsLaw {K} V {S} hash = (m : State K V S) (wanted asked : ℕ) (found : Option ℕ) (before after : Work) → m.is_vec ≡ false
    → IsSearchCost hash wanted m found asked before after
    → after.looked ≤ before.looked + most_reads m.capacity (map (hash m.builder) (keys_of m.pairs))

-- if the table has at most `2 ^ size` buckets, that is more than `step * (size + halvings)` for at most one of `2 ^ halvings`
-- lists of hashes
abbrev pub LongSearchesAreRare : (step hashes capacity held : ℕ) → Type 0
LongSearchesAreRare step hashes capacity held = LongTablesAreRare step hashes (buckets_of capacity) held
