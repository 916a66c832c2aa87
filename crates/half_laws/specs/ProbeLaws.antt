-- What holds of `reach` for every list of held hashes: what decides it, how large it is, and what a long probe shows.
use Rattle.std.specs.Prelude.{◌≡◌, ℕ, ◌+◌, ◌<◌, ◌≤◌, ◌↔◌, List, [], length, Contains, IsPermutation}
use Rattle.half_store.specs.Reach.{home, probe_distance, bucket_after, load, IsLoaded, reach}

-- the first `passed` buckets from the home of the hash on lie in a stretch of neighbouring buckets. The stretch is not all
-- buckets, and is home to at least as many of the held hashes as it has buckets
pub record IsCrowded (hashes : List ℕ) (buckets hash passed : ℕ) : Type 0 where
  pub last : ℕ
  pub size : ℕ
  pub within : last < buckets
  pub partial : size < buckets
  pub long : passed ≤ size
  pub covers : (step : ℕ) → step < passed → probe_distance buckets (bucket_after buckets (home buckets hash) step) last < size
  pub crowded : size ≤ load hashes buckets last size

-- the first `passed` buckets from the home of the hash on are loaded, and the next one is not
pub record PassesLoaded (hashes : List ℕ) (buckets hash passed : ℕ) : Type 0 where
  pub loaded : (step : ℕ) → step < passed → IsLoaded hashes buckets (bucket_after buckets (home buckets hash) step)
  pub ended : ¬ IsLoaded hashes buckets (bucket_after buckets (home buckets hash) passed)

-- a probe reads equally many buckets whatever the order of the held hashes
abbrev pub ReachHistoryLaw : Type 0
ReachHistoryLaw = (some others : List ℕ) (buckets hash : ℕ) → IsPermutation some others
    → reach some buckets hash ≡ reach others buckets hash

-- if there are no buckets, a probe reads none
abbrev pub NoBucketsLaw : Type 0
NoBucketsLaw = (hashes : List ℕ) (hash : ℕ) → reach hashes 0 hash ≡ 0

-- if no hash is held, a probe reads one bucket
abbrev pub NothingHeldLaw : Type 0
NothingHeldLaw = (buckets hash : ℕ) → 0 < buckets → reach [] buckets hash ≡ 1

-- a probe reads one bucket exactly if the home of its hash is not loaded
abbrev pub OneBucketLaw : Type 0
OneBucketLaw = (hashes : List ℕ) (buckets hash : ℕ) → 0 < buckets
    → (reach hashes buckets hash ≡ 1) ↔ (¬ IsLoaded hashes buckets (home buckets hash))

-- a probe for a hash that shares its home with a held one reads at least two buckets
abbrev pub SharedHomeLaw : Type 0
SharedHomeLaw = (hashes : List ℕ) (buckets hash held : ℕ) → 1 < buckets
    → Contains hashes held → home buckets held ≡ home buckets hash → 2 ≤ reach hashes buckets hash

-- a probe reads at most one bucket more than there are held hashes
abbrev pub ShortLaw : Type 0
ShortLaw = (hashes : List ℕ) (buckets hash : ℕ) → reach hashes buckets hash ≤ length hashes + 1

-- a probe reads no more buckets than there are
abbrev pub OnceRoundLaw : Type 0
OnceRoundLaw = (hashes : List ℕ) (buckets hash : ℕ) → reach hashes buckets hash ≤ buckets

-- if fewer hashes are held than there are buckets, a probe ends at the first bucket that is not loaded
abbrev pub StopsLaw : Type 0
StopsLaw = (hashes : List ℕ) (buckets hash passed : ℕ) → length hashes < buckets
    → (reach hashes buckets hash ≡ passed + 1) ↔ PassesLoaded hashes buckets hash passed

-- if fewer hashes are held than there are buckets, a probe passes only buckets that are crowded
abbrev pub CrowdingLaw : Type 0
CrowdingLaw = (hashes : List ℕ) (buckets hash passed : ℕ) → length hashes < buckets
    → passed < reach hashes buckets hash → IsCrowded hashes buckets hash passed
