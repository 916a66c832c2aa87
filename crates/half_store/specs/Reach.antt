-- The home bucket of a hash, and how many buckets an unsuccessful probe from there reads.
--
-- All of it depends only on the held hashes and the number of buckets: nothing here knows what a bucket contains.
use Rattle.std.specs.Prelude.{◌≢◌, ℕ, zero, suc, ◌+◌, ◌-◌, ◌%◌, ◌<◌, ◌≤◌, Bool, false, ◌==◌, ◌||◌, nat_lt, nat_le, if◌then◌else◌, List, [], ◌∷◌, count_by, AllPairs}

-- the home bucket of a hash: where each probe for it begins
abbrev pub home : ℕ → ℕ → ℕ
home buckets hash = hash % buckets

-- the probe distance from bucket `from` up to bucket `to`; the first bucket follows the last
unfoldable pub probe_distance : ℕ → ℕ → ℕ → ℕ
probe_distance buckets from to = if nat_le from to then to - from else to + buckets - from

-- the bucket `count` buckets further than bucket `from`
unfoldable pub bucket_after : ℕ → ℕ → ℕ → ℕ
bucket_after buckets from count = if nat_lt (from + count) buckets then from + count else from + count - buckets

module _ (hashes : List ℕ) (buckets : ℕ) where
  -- how many of the hashes have their home bucket in the stretch of `size` buckets, round the end if need be, that ends with bucket `last`
  unfoldable pub load : ℕ → ℕ → ℕ
  load last size = count_by (λ hash. nat_lt (probe_distance buckets (home buckets hash) last) size) hashes

  -- some stretch that ends with this bucket is home to at least as many hashes as it has buckets
  abbrev pub IsLoaded : ℕ → Type 0
  IsLoaded last = (size : ℕ) × (1 ≤ size) × (size < buckets) × (size ≤ load last size)

  -- whether a stretch of 1 to `longest` buckets that ends with bucket `last` is home to at least as many hashes
  unfoldable pub loaded_within : ℕ → ℕ → Bool
  loaded_within last zero = false
  loaded_within last (suc longest) = nat_le (suc longest) (load last (suc longest)) || loaded_within last longest

  -- whether `IsLoaded` holds, computed
  abbrev pub bucket_is_loaded : ℕ → Bool
  bucket_is_loaded last = loaded_within last (buckets - 1)

  -- how many loaded buckets follow one another from this bucket on, at most `longest`
  unfoldable pub loaded_run : ℕ → ℕ → ℕ
  loaded_run zero bucket = 0
  loaded_run (suc longest) bucket = if bucket_is_loaded bucket then suc (loaded_run longest (bucket_after buckets bucket 1)) else 0

  -- the length of an unsuccessful probe for this hash: the loaded buckets from its home bucket on, and one more
  unfoldable pub reach : ℕ → ℕ
  reach hash = if buckets == 0 then 0 else suc (loaded_run (buckets - 1) (home buckets hash))

  -- no two of the hashes have the same home bucket
  abbrev pub HomesApart : Type 0
  HomesApart = AllPairs (λ one other. home buckets one ≢ home buckets other) hashes

-- how many buckets are read in all to insert these hashes into an empty table, the last one of the list first
abbrev pub filling_reads_in : (buckets : ℕ) → List ℕ → ℕ
filling_reads_in buckets [] = 0
filling_reads_in buckets (hash ∷ before) = reach before buckets hash + filling_reads_in buckets before
