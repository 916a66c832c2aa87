-- What stands in a bucket: a word, which is 0 or the entry index of its pair and one more, and the hash stored for it.
use Rattle.std.specs.Prelude.{◌≡◌, ◌≢◌, ℕ, ◌<◌, ◌==◌, Bool, false, List, length, count_by, Option, Some, None, slice_index_or, zero, suc, ◌≤◌, map}
use Rattle.half_store.specs.Reach.{home, probe_distance}
use Rattle.std.specs.List.{All, slice_get, position_or_len}

-- the hash stored for a word, by the stored hashes of the entry indices
abbrev pub hash_of_word : List ℕ → ℕ → Option ℕ
hash_of_word hashes zero = None
hash_of_word hashes (suc index) = slice_get hashes index

-- the hash stored for each bucket
abbrev pub slots_from : List ℕ → List ℕ → List (Option ℕ)
slots_from hashes words = map (hash_of_word hashes) words

-- each bucket is empty, or its entry index has a stored hash
abbrev pub WithinHashes : List ℕ → List ℕ → Type 0
WithinHashes hashes words = All (λ word. word ≤ length hashes) words

-- each entry index below this number stands in exactly one bucket, and no other in any
pub record EachOnce (number : ℕ) (words : List ℕ) : Type 0 where
  pub within : All (λ word. word ≤ number) words
  pub once : (index : ℕ) → index < number → count_by (λ word. word == suc index) words ≡ 1

-- the bucket of this entry index
abbrev pub bucket_of : List ℕ → ℕ → ℕ
bucket_of words index = position_or_len (λ word. word == suc index) words

-- the hash stored in a bucket, or none if it is empty
abbrev pub slot_at : List (Option ℕ) → ℕ → Option ℕ
slot_at slots bucket = slice_index_or slots bucket None

-- the test of a stored hash, which no empty bucket passes
abbrev pub stored : (ℕ → Bool) → Option ℕ → Bool
stored test None = false
stored test (Some hash) = test hash

-- the probe distance of a bucket from the hash's home bucket
abbrev pub distance_from_home : List (Option ℕ) → ℕ → ℕ → ℕ
distance_from_home slots hash bucket = probe_distance (length slots) (home (length slots) hash) bucket

-- each bucket that a probe from `start` reads before this one is full
abbrev pub FullBefore : List (Option ℕ) → ℕ → ℕ → Type 0
FullBefore slots start bucket =
    (other : ℕ) → other < length slots → probe_distance (length slots) start other < probe_distance (length slots) start bucket → slot_at slots other ≢ None

-- an insertion probe for the hash ends at this bucket: it is the first empty one from the hash's home bucket on
pub record IsSlotVacancy (slots : List (Option ℕ)) (hash bucket : ℕ) : Type 0 where
  pub within : bucket < length slots
  pub vacant : slot_at slots bucket ≡ None
  pub passed : FullBefore slots (home (length slots) hash) bucket

-- some bucket is empty
abbrev pub HasVacantSlot : List (Option ℕ) → Type 0
HasVacantSlot slots = (bucket : ℕ) × (bucket < length slots) × (slot_at slots bucket ≡ None)

-- the probe invariant: counted from its home bucket, a stored hash comes before every empty bucket
pub record ProbeInvariant (slots : List (Option ℕ)) : Type 0 where
  pub before : (bucket vacant hash : ℕ) → slot_at slots bucket ≡ Some hash → vacant < length slots → slot_at slots vacant ≡ None →
      probe_distance (length slots) (home (length slots) hash) bucket < probe_distance (length slots) (home (length slots) hash) vacant
