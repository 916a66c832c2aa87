-- How many buckets searches that find their keys read: together as many as insertions, whatever was inserted and removed
-- before.
--
-- Keys do not appear in a mean, only the hashes that held keys may have. No law says how likely a builder makes them.
use Rattle.std.specs.Prelude.{◌≡◌, ℕ, ◌+◌, ◌<◌, Bool, false, length, Option, Some, IsPermutation, List}
use Rattle.std.specs.Map.{keys_of}
use Rattle.half_store.specs.Capacity.{buckets_of}
use Rattle.half_store.specs.PairLists.{index_of}
use Rattle.half_store.specs.Reach.{filling_reads_in}
use Rattle.half_store.specs.Work.{Work, sum_below}
use Rattle.half_mean.specs.Mean.{sum_lists, filling_cases, MeanIsAtMost}
use Rattle.halfbrown.specs.Costs.{IsSearchCost, hit_reads, filling_reads}
use Rattle.halfbrown.specs.State.{State, IsValid}
use Rattle.half_laws.specs.MapLaws.{HoldSamePairs}

module _ {K : Type 0} (V : Type 0) {S : Type 0} (hash : S → K → ℕ) where
  -- in a table a search that finds the pair at this index, by any query for its key, reads as many buckets each time
  abbrev pub HitLaw : Type 0
  HitLaw = (m : State K V S) (test : K → Bool) (wanted asked index : ℕ) (before after : Work) → m.is_vec ≡ false
      → index_of test (keys_of m.pairs) ≡ Some index
      → IsSearchCost hash wanted m (index_of test (keys_of m.pairs)) asked before after → after.looked ≡ before.looked + hit_reads m index

  -- the searches for all pairs, one each, read as many buckets as the insertions of these pairs into an empty table of this
  -- capacity. Each search says so, whatever it finds
  abbrev pub HitTotalLaw : Type 0
  HitTotalLaw = (m : State K V S) (wanted asked : ℕ) (found : Option ℕ) (before after : Work) → m.is_vec ≡ false
      → IsSearchCost hash wanted m found asked before after
      → sum_below (length m.pairs) (λ index. hit_reads m index) ≡ filling_reads (hash m.builder) m.capacity m.pairs

-- so in two maps that hold the same pairs in any order they read as many, whatever was inserted and removed before
module _ {K : Type 0} (V : Type 0) {S : Type 0} (limit : ℕ) (eq : K → K → Bool) (hash : S → K → ℕ) where
  abbrev pub HitHistoryLaw : Type 0
  HitHistoryLaw = (a b : State K V S) (wanted asked wanted' asked' : ℕ) (found found' : Option ℕ) (before after before' after' : Work)
      → HoldSamePairs a b → IsValid limit eq a → a.is_vec ≡ false
      → IsSearchCost hash wanted a found asked before after → IsSearchCost hash wanted' b found' asked' before' after'
      → sum_below (length a.pairs) (λ index. hit_reads a index) ≡ sum_below (length b.pairs) (λ index. hit_reads b index)

-- the order of the insertions does not matter
abbrev pub FillingOrderLaw : Type 0
FillingOrderLaw = (buckets : ℕ) (some others : List ℕ) → length some < buckets → IsPermutation some others
    → filling_reads_in buckets some ≡ filling_reads_in buckets others

-- what the searches for all held pairs read in all cases: each list of `held` hashes in a table of this capacity. All hashes
-- are below `hashes`
abbrev pub total_hits : (hashes capacity held : ℕ) → ℕ
total_hits hashes capacity held = sum_lists hashes held (λ list. filling_reads_in (buckets_of capacity) list)

-- the mean over these cases and their pairs is at most `over / under`
abbrev pub MeanHitIsAtMost : (over under hashes capacity held : ℕ) → Type 0
MeanHitIsAtMost over under hashes capacity held = MeanIsAtMost (total_hits hashes capacity held) (filling_cases hashes held) over under
