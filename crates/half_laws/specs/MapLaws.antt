-- What holds of every search: what decides its cost, and what a long probe shows.
use Rattle.std.specs.Prelude.{◌≡◌, ℕ, ◌+◌, ◌<◌, ◌≤◌, Bool, true, false, not, ◌&&◌, List, length, map, Option, IsPermutation}
use Rattle.std.specs.Map.{keys_of}
use Rattle.half_store.specs.Capacity.{buckets_of}
use Rattle.half_store.specs.PairLists.{index_of}
use Rattle.half_laws.specs.ProbeLaws.{IsCrowded}
use Rattle.half_store.specs.Work.{Work}
use Rattle.halfbrown.specs.declared.run.Command.{Command}
use Rattle.halfbrown.specs.declared.run.Command.TheVariants.{Insert, InsertNew, EntryOrInsert, RawOrInsert, Get, Remove}
use Rattle.halfbrown.specs.CostRanges.{TallyGrewBy}
use Rattle.halfbrown.specs.Costs.{miss_reads, addition_grows, capacity_after_switch, capacity_after_growth, new_key_cost, IsSearchCost, IsInsertCost}
use Rattle.halfbrown.specs.Growth.{is_vec_after}
use Rattle.halfbrown.specs.Pairs.{holds, holds_by}
use Rattle.halfbrown.specs.Run.{command_cost}
use Rattle.halfbrown.specs.State.{State, IsValid, IsTableCapacity}

-- two maps have the same form, capacity and builder, and the same pairs in any order
pub record HoldSamePairs {K V S : Type 0} (a b : State K V S) : Type 0 where
  pub form : a.is_vec ≡ b.is_vec
  pub pairs : IsPermutation a.pairs b.pairs
  pub capacity : a.capacity ≡ b.capacity
  pub builder : a.builder ≡ b.builder

-- a tally grew by exactly this work
pub record GrewExactlyBy (work before after : Work) : Type 0 where
  pub asked : after.asked ≡ before.asked + work.asked
  pub compared : after.compared ≡ before.compared + work.compared
  pub looked : after.looked ≡ before.looked + work.looked

-- the first `passed` buckets from the home bucket of a hash on lie in a stretch of neighbouring buckets. The stretch is not all
-- buckets, and is home to at least as many of the held pairs as it has buckets
abbrev pub IsCrowdedAround : {K V : Type 0} → (K → ℕ) → ℕ → List (K × V) → ℕ → ℕ → Type 0
IsCrowdedAround hash capacity pairs wanted passed = IsCrowded (map hash (keys_of pairs)) (buckets_of capacity) wanted passed

-- the same from the home bucket of k on
abbrev pub IsCrowdedFor : {K V : Type 0} → (K → ℕ) → ℕ → List (K × V) → K → ℕ → Type 0
IsCrowdedFor hash capacity pairs k passed = IsCrowdedAround hash capacity pairs (hash k) passed

-- two unsuccessful probes for k with the same pairs, one in a table of capacity `old` and one in a table of capacity `new`.
-- Together they read exactly the buckets by which the tally grew, and each passes only buckets that are crowded
pub record ReadsTwoProbes {K V : Type 0} (hash : K → ℕ) (old new : ℕ) (pairs : List (K × V)) (k : K) (before after : Work) : Type 0 where
  pub first : ℕ
  pub second : ℕ
  pub read : after.looked ≡ before.looked + (first + second)
  pub first_crowded : (passed : ℕ) → passed < first → IsCrowdedFor hash old pairs k passed
  pub second_crowded : (passed : ℕ) → passed < second → IsCrowdedFor hash new pairs k passed

module _ {K V S : Type 0} (limit : ℕ) (eq : K → K → Bool) where
  -- whether the command finds its key in a vector: the order of the pairs then decides how many keys it compares
  abbrev pub finds_in_vector : State K V S → Command K V → Bool
  finds_in_vector m (Insert k v) = is_vec_after limit m && holds eq m.pairs k
  finds_in_vector m (InsertNew k v) = m.is_vec && holds eq m.pairs k
  finds_in_vector m (EntryOrInsert k v) = is_vec_after limit m && holds eq m.pairs k
  finds_in_vector m (RawOrInsert k v) = is_vec_after limit m && holds eq m.pairs k
  finds_in_vector m (Get k) = m.is_vec && holds eq m.pairs k
  finds_in_vector m (Remove k) = m.is_vec && holds eq m.pairs k
  finds_in_vector m command = false

  -- whether an insertion of k makes the capacity grow for one pair more: it is granted, k is not held, and no capacity is left
  abbrev pub insertion_grows : State K V S → K → Bool → Bool
  insertion_grows m k granted = granted && not (holds eq m.pairs k) && addition_grows limit m

module _ {K : Type 0} (V : Type 0) {S : Type 0} (hash : S → K → ℕ) where
  -- a probe for a hash in a table of this capacity, for a search or for an insertion, passes only buckets that are crowded
  abbrev pub CrowdedProbeLaw : Type 0
  CrowdedProbeLaw = (builder : S) (capacity : ℕ) (pairs : List (K × V)) (wanted passed : ℕ)
      → IsTableCapacity capacity → length pairs ≤ capacity → passed < miss_reads (hash builder) false capacity pairs wanted
      → IsCrowdedAround (hash builder) capacity pairs wanted passed

  -- in two maps that hold the same pairs in any order, a search that finds none costs exactly the same hashes, comparisons and
  -- reads. That holds whatever was inserted and removed before, for a key or any query for one, hashed by it or under a hash
  -- that is known
  abbrev pub HistoryLaw : Type 0
  HistoryLaw = (a b : State K V S) (test : K → Bool) (wanted asked : ℕ) (a_before a_after b_before b_after : Work) → HoldSamePairs a b → holds_by test a.pairs ≡ false
      → IsSearchCost hash wanted a (index_of test (keys_of a.pairs)) asked a_before a_after
      → IsSearchCost hash wanted b (index_of test (keys_of b.pairs)) asked b_before b_after
      → (work : Work) × GrewExactlyBy work a_before a_after × GrewExactlyBy work b_before b_after

module _ {K : Type 0} (V : Type 0) {S : Type 0} (limit : ℕ) (eq : K → K → Bool) (hash : S → K → ℕ) where
  -- in two maps that hold the same pairs in any order, an insertion of a new key costs exactly the same, if both are granted
  -- or both are refused
  abbrev pub InsertionHistoryLaw : Type 0
  InsertionHistoryLaw = (a b : State K V S) (k : K) (granted : Bool) (a_before a_after b_before b_after : Work) → HoldSamePairs a b → holds eq a.pairs k ≡ false
      → IsInsertCost limit eq hash a k granted a_before a_after → IsInsertCost limit eq hash b k granted b_before b_after
      → (work : Work) × GrewExactlyBy work a_before a_after × GrewExactlyBy work b_before b_after

  -- in two maps that hold the same pairs in any order, a command's cost has the same bounds, unless it finds its key in a
  -- vector
  abbrev pub CommandCostLaw : Type 0
  CommandCostLaw = (a b : State K V S) (command : Command K V) (granted : Bool) → HoldSamePairs a b → finds_in_vector limit eq a command ≡ false
      → command_cost limit eq hash a command granted ≡ command_cost limit eq hash b command granted

  -- in two maps that hold the same pairs in any order, a command hashes as often, even if it finds its key in a vector
  abbrev pub CommandHashesLaw : Type 0
  CommandHashesLaw = (a b : State K V S) (command : Command K V) (granted : Bool) → HoldSamePairs a b
      → (command_cost limit eq hash a command granted).asked ≡ (command_cost limit eq hash b command granted).asked

  -- in two maps that hold the same pairs in any order, a command's reads have the same bounds, even if it finds its key in a
  -- vector
  abbrev pub CommandBucketsLaw : Type 0
  CommandBucketsLaw = (a b : State K V S) (command : Command K V) (granted : Bool) → HoldSamePairs a b
      → (command_cost limit eq hash a command granted).looked ≡ (command_cost limit eq hash b command granted).looked

  -- a search in a table, by any query for a key or by a match, passes only buckets that are crowded, whether it finds one or
  -- not
  abbrev pub CrowdedSearchLaw : Type 0
  CrowdedSearchLaw = (m : State K V S) (wanted : ℕ) (found : Option ℕ) (asked : ℕ) (before after : Work) (passed : ℕ)
      → IsValid limit eq m → m.is_vec ≡ false → IsSearchCost hash wanted m found asked before after → before.looked + passed < after.looked
      → IsCrowdedAround (hash m.builder) m.capacity m.pairs wanted passed

  -- an insertion that makes no capacity grow for its key passes only buckets that are crowded
  abbrev pub CrowdedInsertionLaw : Type 0
  CrowdedInsertionLaw = (m : State K V S) (k : K) (granted : Bool) (before after : Work) (passed : ℕ)
      → IsValid limit eq m → insertion_grows limit eq m k granted ≡ false
      → IsInsertCost limit eq hash m k granted before after → before.looked + passed < after.looked
      → IsCrowdedFor (hash m.builder) (capacity_after_switch limit m) m.pairs k passed

  -- an insertion that makes the capacity of a table grow for its key reads two unsuccessful probes, one before the growth and
  -- one after it
  abbrev pub CrowdedGrowthLaw : Type 0
  CrowdedGrowthLaw = (m : State K V S) (k : K) (granted : Bool) (before after : Work)
      → IsValid limit eq m → is_vec_after limit m ≡ false → insertion_grows limit eq m k granted ≡ true
      → IsInsertCost limit eq hash m k granted before after
      → ReadsTwoProbes (hash m.builder) (capacity_after_switch limit m) (capacity_after_growth limit m) m.pairs k before after

  -- an insertion of a new key without a search passes only buckets that are crowded, in the capacity that it leaves
  abbrev pub CrowdedUncheckedLaw : Type 0
  CrowdedUncheckedLaw = (m : State K V S) (k : K) (granted : Bool) (before after : Work) (passed : ℕ)
      → IsValid limit eq m → TallyGrewBy (new_key_cost limit eq hash m k granted) before after → before.looked + passed < after.looked
      → IsCrowdedFor (hash m.builder) (capacity_after_growth limit m) m.pairs k passed
