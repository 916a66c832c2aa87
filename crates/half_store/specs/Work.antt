-- What is counted, and what a probe of a table adds to it.
use Rattle.std.specs.Prelude.{ℕ, zero, suc, ◌+◌, Option, None, Some, ◌≡◌, ◌-◌, ◌≤◌, ◌==◌, List, length, slice_index, count_by}
use Rattle.half_store.specs.Reach.{home, probe_distance, reach, HomesApart}

-- how often a hash was computed, keys were compared, and buckets were read
pub record Work : Type 0 where
  pub asked : ℕ
  pub compared : ℕ
  pub looked : ℕ

-- nothing yet
abbrev pub no_work : Work
no_work = record { asked = 0; compared = 0; looked = 0 }

-- n more comparisons of keys
abbrev pub compared_more : ℕ → Work → Work
compared_more n w = record w { compared = w.compared + n }

-- how many comparisons a search from first to last makes among this many keys: up to and with the one that it finds, or all
abbrev pub first_match_cost : Option ℕ → ℕ → ℕ
first_match_cost None len = len
first_match_cost (Some index) len = index + 1

-- n more hashes were computed
abbrev pub asked_more : ℕ → Work → Work
asked_more n w = record w { asked = w.asked + n }

-- n more buckets were read
abbrev pub looked_more : ℕ → Work → Work
looked_more n w = record w { looked = w.looked + n }

-- at most this many more buckets were read, and nothing else was done
pub record ReadsWithin (reads : ℕ) (old new : Work) : Type 0 where
  pub asked : new.asked ≡ old.asked
  pub compared : new.compared ≡ old.compared
  pub looked : new.looked ≤ old.looked + reads

-- how many of the hashes are this one
abbrev pub pairs_of_hash : List ℕ → ℕ → ℕ
pairs_of_hash hashes hash = count_by (λ held. held == hash) hashes

-- after a probe that found none: each held pair of that hash was compared, and exactly `reach` buckets were read
abbrev pub work_after_miss : List ℕ → ℕ → ℕ → Work → Work
work_after_miss hashes buckets hash w =
    record w { compared = w.compared + pairs_of_hash hashes hash; looked = w.looked + reach hashes buckets hash }

-- what a probe that found a pair added
pub record IsTableHitCost (hashes : List ℕ) (buckets hash : ℕ) (old new : Work) : Type 0 where
  pub asked : new.asked ≡ old.asked
  pub compared_some : old.compared + 1 ≤ new.compared
  pub compared_most : new.compared ≤ old.compared + pairs_of_hash hashes hash
  pub looked_some : old.looked + 1 ≤ new.looked
  pub looked_most : new.looked + 1 ≤ old.looked + reach hashes buckets hash
  pub looked_once : HomesApart hashes buckets → new.looked ≡ old.looked + 1

-- the sum over all numbers below `count`
abbrev pub sum_below : (count : ℕ) → (ℕ → ℕ) → ℕ
sum_below zero f = 0
sum_below (suc count) f = f count + sum_below count f

-- how many buckets a probe for this hash reads up to and with this bucket
abbrev pub reads_up_to : ℕ → ℕ → ℕ → ℕ
reads_up_to buckets hash bucket = probe_distance buckets (home buckets hash) bucket + 1

-- the most buckets that a removal of the pair at this entry index reads: one fewer than unsuccessful probes for its hash and for the last one
abbrev pub removal_reads : List ℕ → ℕ → ℕ → ℕ
removal_reads hashes buckets index = reach hashes buckets (slice_index hashes index) + reach hashes buckets (slice_index hashes (length hashes - 1)) - 1

-- the most that it reads if the bucket of the pair is known, and no probe for it is made
abbrev pub removal_reads_at : List ℕ → ℕ → ℕ → ℕ → ℕ
removal_reads_at hashes buckets index bucket = removal_reads hashes buckets index - reads_up_to buckets (slice_index hashes index) bucket
