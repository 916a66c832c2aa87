-- The value of a table, how its fields make it, what a search of it finds and costs, and what a removal does.
use Rattle.std.specs.Prelude.{ℕ, suc, List, [], ◌∷◌, ◌++◌, length, Option, Some, slice_set, slice_index, ◌≡◌, ◌≢◌, ◌<◌, ◌≤◌, None, ◌+◌, Bool, true, false, slice_get, vec_capacity, IfSome, IfNone, Result, IfOk, IfErr, OnErr}
use Rattle.std.specs.Coded.{Coded, coded×, coded_list, coded_ℕ}
use base.Stored.{coded_via}
use Rattle.half_store.specs.Slots.{IsSlotVacancy, slot_at, distance_from_home, ProbeInvariant, slots_from, EachOnce, bucket_of}
use Rattle.half_store.specs.Capacity.{capacity_of, IsBucketCount, buckets_of}
use Rattle.half_store.specs.Words.{AreWordsFor, room_of, greatest_word_in, HasNoWords, IsEmptyVec}
use Rattle.half_store.specs.declared.words.WordMemory.{WordMemory}
use Rattle.std.specs.declared.vec.Vec.{Vec}
use Rattle.std.specs.List.{swap_remove}
use Rattle.std.specs.Option.{option_map}
use Rattle.std.specs.Result.{result_ok}
use Rattle.half_store.specs.Work.{work_after_miss, IsTableHitCost, Work, reads_up_to, sum_below}
use Rattle.half_store.specs.Reach.{reach, filling_reads_in}

-- what callers see: the stored hashes by entry index, and how many buckets there are; the words of the buckets are private
pub record TableState : Type 0 where
  pub hashes : List ℕ
  pub buckets : ℕ
  words : List ℕ

abbrev pub state_of_words : List ℕ → List ℕ → TableState
state_of_words hashes words = record { hashes = hashes; buckets = length words; words = words }

-- an insertion probe for the hash ends at this bucket
abbrev pub IsTableVacancy : TableState → ℕ → ℕ → Type 0
IsTableVacancy t hash bucket = IsSlotVacancy (slots_from t.hashes t.words) hash bucket

-- the pair of this entry index stands in this bucket
abbrev pub IsTablePlace : TableState → ℕ → ℕ → Type 0
IsTablePlace t index bucket = slice_index t.words bucket ≡ index + 1

-- the table once a pair of the hash is added in this bucket
abbrev pub with_hash_in : TableState → ℕ → ℕ → TableState
with_hash_in t hash bucket = state_of_words (t.hashes ++ hash ∷ []) (slice_set t.words bucket (suc (length t.hashes)))

-- how many buckets a search reads that finds the pair of this entry index: from the home of its hash up to and with its bucket
unfoldable pub hit_reads_in : TableState → ℕ → ℕ
hit_reads_in t index = reads_up_to t.buckets (slice_index t.hashes index) (bucket_of t.words index)

-- how many the searches for the pairs of the first entry indices read, one each
unfoldable pub all_hit_reads_in : TableState → ℕ → ℕ
all_hit_reads_in t pairs = sum_below pairs (λ index. hit_reads_in t index)

abbrev pub table_code : Coded TableState
table_code =
    coded_via (coded× (coded_list coded_ℕ) (coded× coded_ℕ (coded_list coded_ℕ))) (λ t. (t.hashes, (t.buckets, t.words)))
    (λ a b e i. record { hashes = (e i).0; buckets = (e i).1.0; words = (e i).1.1 })

-- the buckets are an index over the stored hashes: each pair has one bucket, which a probe from its home reads before any empty one
pub record IsIndexed (hashes words : List ℕ) : Type 0 where
  pub count : IsBucketCount (length words)
  pub room : length hashes ≤ capacity_of (length words)
  pub each : EachOnce (length hashes) words
  pub ordered : ProbeInvariant (slots_from hashes words)

-- a bucket other than the gap is empty
abbrev pub IsOtherEmpty : List (Option ℕ) → ℕ → ℕ → Type 0
IsOtherEmpty slots gap vacant = (vacant < length slots) × (slot_at slots vacant ≡ None) × (vacant ≢ gap)

-- an emptied bucket: only it may break the probe invariant; another bucket is empty too
pub record HasGap (slots : List (Option ℕ)) (gap : ℕ) : Type 0 where
  pub within : gap < length slots
  pub vacant : slot_at slots gap ≡ None
  pub another : (bucket : ℕ) × IsOtherEmpty slots gap bucket
  pub others : (bucket vacant hash : ℕ) → slot_at slots bucket ≡ Some hash → vacant < length slots → slot_at slots vacant ≡ None → vacant ≢ gap →
      distance_from_home slots hash bucket < distance_from_home slots hash vacant

-- they are one but for a bucket that was emptied, whose pair has no stored hash any more
pub record IsIndexedWithGap (hashes words : List ℕ) (emptied : ℕ) : Type 0 where
  pub room : length hashes ≤ capacity_of (length words)
  pub each : EachOnce (length hashes) words
  pub gap : HasGap (slots_from hashes words) emptied

-- what is always true of a table's columns: the buckets have words up to `most`, of four bytes exactly if the capacity of the table is
-- below 2^32, and the column of the hashes has memory for exactly that capacity
pub record IsTable (hashes words : List ℕ) (most capacity : ℕ) : Type 0 where
  pub indexed : IsIndexed hashes words
  pub sized : AreWordsFor most (capacity_of (length words))
  pub exact : capacity ≡ capacity_of (length words)

-- what is always true of memory for a table: nothing is filled, and it is as much as `IsTable` says
pub record IsTableMemory {Z : Type 0} (hashes : Vec ℕ Z) (words : WordMemory) : Type 0 where
  pub count : IsBucketCount (room_of words)
  pub sized : AreWordsFor (greatest_word_in words) (capacity_of (room_of words))
  pub exact : vec_capacity hashes ≡ capacity_of (room_of words)
  pub no_hashes : IsEmptyVec hashes
  pub no_words : HasNoWords words

-- what a search of a table cost that found the pair of this entry index, or none. The searches for all pairs, one each, read what insertions
-- of their hashes read (`hits`)
pub record IsTableSearchCost (t : TableState) (hash : ℕ) (index : Option ℕ) (old new : Work) : Type 0 where
  pub missing : IfNone index (new ≡ work_after_miss t.hashes t.buckets hash old)
  pub found : IfSome index (λ _. IsTableHitCost t.hashes t.buckets hash old new)
  pub hit : IfSome index (λ at. new.looked ≡ old.looked + hit_reads_in t at)
  pub hits : all_hit_reads_in t (length t.hashes) ≡ filling_reads_in t.buckets t.hashes
  pub short : reach t.hashes t.buckets hash ≤ length t.hashes + 1

-- the entry index of a pair of this hash that the test accepts, and its bucket; or, if it rejects each, the empty bucket where the probe
-- ended, if there are buckets
pub record TableSearch (returns : ℕ → Bool → Type 0) (t : TableState) (hash : ℕ) (result : Result (ℕ × ℕ) ℕ) (old new : Work) : Type 0 where
  pub found : IfOk result (λ pair. slice_get t.hashes pair.0 ≡ Some hash)
  pub at : IfOk result (λ pair. IsTablePlace t pair.0 pair.1)
  pub accepted : IfOk result (λ pair. returns pair.0 true)
  pub rejected : OnErr result ((index : ℕ) → slice_get t.hashes index ≡ Some hash → returns index false)
  pub vacancy : IfErr result (λ bucket. 0 < t.buckets → IsTableVacancy t hash bucket)
  pub cost : IsTableSearchCost t hash (option_map (λ pair. pair.0) (result_ok result)) old new
  pub buckets : t.buckets ≡ buckets_of (capacity_of t.buckets)

-- the pair at this entry index, which had the hash that is returned, is gone, and the last one has its index
pub record RemovesFromTable (old : TableState) (index : ℕ) (new : TableState) (result : ℕ) : Type 0 where
  pub hash : slice_get old.hashes index ≡ Some result
  pub hashes : new.hashes ≡ swap_remove old.hashes index 0
  pub buckets : new.buckets ≡ old.buckets
