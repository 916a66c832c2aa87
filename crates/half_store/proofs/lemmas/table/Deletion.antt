-- Backward-shift deletion: what holds while the probe goes on, and that the order is whole again at its end.
use Rattle.half_store.proofs.Common.{◌≡◌, ◌≤◌, length, ◌+◌, inr, ◌∙◌, arith, ℕ, ◌-◌, ◌<◌, inl, sym, ap, List, Some, slice_index, Option, None, subst, ◌≢◌, set}
use Rattle.half_store.proofs.Common.{◌⊎◌, cases_eq, common_steps, length-set, same_Some, probe_distance, bucket_after, home, slots_from, slot_at, hash_of_word}
use Rattle.half_store.proofs.Common.{EachOnce, HasVacantSlot, ProbeInvariant, IsIndexedWithGap, IsOtherEmpty}
use Rattle.std.proofs.lemmas.List.{set-set}
use Rattle.half_store.specs.Table.{HasGap}
use Rattle.half_store.proofs.lemmas.table.Buckets.{length-slots_from, hash_of_word-at, slot_of_word, slot_of_zero, word_set, word_other, within-at}
use Rattle.half_store.proofs.lemmas.table.Buckets.{EachOnce-move}
use Rattle.half_store.proofs.lemmas.table.Circle.{distance_is, after_is, next_farther, probe_distance-lt, distance_same}
use Rattle.half_store.proofs.lemmas.table.Slots.{full_from, full-lt, home-lt}

-- a pair that stands outside the stretch from the gap to an empty bucket, and comes before that bucket, comes before the gap
outside : (m start gap bucket h q : ℕ) → start < m → gap < m → bucket < m → h < m → q < m → q ≢ gap → q ≢ bucket
    → probe_distance m start gap < probe_distance m start bucket
    → (probe_distance m start q ≤ probe_distance m start gap) ⊎ (probe_distance m start bucket ≤ probe_distance m start q)
    → probe_distance m h q < probe_distance m h bucket → probe_distance m h q < probe_distance m h gap
outside m start gap bucket h q in_start in_gap in_bucket in_h in_q off_gap off_bucket order side before = grind (arith, common_steps, distance_is)

-- a pair at this bucket comes before another bucket on the way from its home
abbrev Before : ℕ → ℕ → ℕ → ℕ → Type 0
Before m hash at other = probe_distance m (home m hash) at < probe_distance m (home m hash) other

-- what the buckets contain, if the gap counts as empty
abbrev around : List ℕ → List ℕ → ℕ → List (Option ℕ)
around hashes words gap = slots_from hashes (set words gap 0)

-- from bucket `start` on the probe has passed full buckets, and is at this one; the gap is among them, or at `start`
pub record Shifts (m : ℕ) (hashes words : List ℕ) (start gap bucket : ℕ) : Type 0 where
  pub each : EachOnce (length hashes) (set words gap 0)
  pub size : length words ≡ m
  pub start_in : start < m
  pub gap_in : gap < m
  pub bucket_in : bucket < m
  pub behind : probe_distance m start gap < probe_distance m start bucket
  -- the order is broken by no empty bucket but the gap
  pub others : (at other hash : ℕ) → slot_at (around hashes words gap) at ≡ Some hash → other < m
      → slot_at (around hashes words gap) other ≡ None → other ≢ gap → Before m hash at other
  -- and not by the gap, as far as the probe has come
  pub passed : (at hash : ℕ) → slot_at (around hashes words gap) at ≡ Some hash → probe_distance m start gap < probe_distance m start at
      → probe_distance m start at < probe_distance m start bucket → Before m hash at gap

-- an empty bucket is still ahead
pub record Ahead (m : ℕ) (hashes words : List ℕ) (start gap bucket vacant : ℕ) : Type 0 where
  pub inside : vacant < m
  pub none : slot_at (around hashes words gap) vacant ≡ None
  pub near : probe_distance m start bucket ≤ probe_distance m start vacant

module _ (m : ℕ) (hashes words : List ℕ) (start bucket : ℕ) (size : length words ≡ m) (x : IsIndexedWithGap hashes (set words start 0) start)
    (e : bucket ≡ bucket_after m start 1) where
  long_start : length (around hashes words start) ≡ m
  long_start = length-slots_from hashes (set words start 0) ∙ length-set words start 0 ∙ size

  in_start : start < m
  in_start = omega (arith, x.gap.within, long_start)

  pub Ahead-start : (vacant : ℕ) → IsOtherEmpty (around hashes words start) start vacant → Ahead m hashes words start start bucket vacant
  Ahead-start vacant v = grind (arith, common_steps, after_is, distance_is, in_start, long_start)

  pub Shifts-start : Shifts m hashes words start start bucket
  Shifts-start = grind (arith, common_steps, after_is, distance_is, in_start, long_start)

module _ {m : ℕ} {hashes words : List ℕ} {start gap bucket : ℕ} (s : Shifts m hashes words start gap bucket) where
  abbrev slots : List (Option ℕ)
  slots = around hashes words gap

  long : length slots ≡ m
  long = length-slots_from hashes (set words gap 0) ∙ length-set words gap 0 ∙ s.size

  within : (q hash : ℕ) → slot_at slots q ≡ Some hash → q < m
  within q hash is = omega (arith, full-lt slots q (full_from _ hash is), long)

  not_gap : (q hash : ℕ) → slot_at slots q ≡ Some hash → q ≢ gap
  not_gap q hash is same =
      let none = slot_of_zero hashes (set words gap 0) gap (word_set words gap 0 (omega (arith, s.gap_in, s.size))) in
      full_from _ hash is (ap (slot_at slots) same ∙ none)

  apart : bucket ≢ gap
  apart same = absurd (omega (arith, s.behind, ap (probe_distance m start) same))

  -- the gap is so far back, at first by one bucket
  pub gap_distance : probe_distance m gap bucket + probe_distance m start gap ≡ probe_distance m start bucket
  gap_distance = grind (arith, common_steps, distance_is)

  pub first_distance : bucket ≡ bucket_after m gap 1 → probe_distance m gap bucket ≡ 1
  first_distance e = omega (arith, apart, s.gap_in, s.bucket_in, after_is m gap 1, distance_is m gap bucket s.gap_in)

  word_is : slice_index (set words gap 0) bucket ≡ slice_index words bucket
  word_is = word_other words gap bucket 0 apart

  pub word_within : slice_index words bucket ≤ length hashes
  word_within = omega (arith, within-at (length hashes) (set words gap 0) bucket s.each.within, word_is)

  -- the probe ends at an empty bucket: the order is whole
  pub Shifts-end : slice_index words bucket ≡ 0 → ProbeInvariant slots
  Shifts-end zero_word = grind (arith, common_steps, apart, full_from, home-lt, long, not_gap, outside, set, slot_of_zero, within, word_is)

  module _ {vacant : ℕ} (a : Ahead m hashes words start gap bucket vacant) (next : ℕ) (some : slice_index words bucket ≢ 0)
      (e : next ≡ bucket_after m bucket 1) where
    abbrev index : ℕ
    index = slice_index words bucket - 1

    abbrev hash : ℕ
    hash = slice_index hashes index

    is : slot_at slots bucket ≡ Some hash
    is = slot_of_word hashes (set words gap 0) bucket index (omega (arith, word_within)) (word_is ∙ omega arith)

    in_home : home m hash < m
    in_home = home-lt m hash (omega (arith, s.bucket_in))

    -- the home lies after the gap, or not
    home_side : (probe_distance m (home m hash) bucket < probe_distance m gap bucket → Before m hash bucket gap)
        × (probe_distance m gap bucket ≤ probe_distance m (home m hash) bucket
        → probe_distance m (home m hash) gap ≤ probe_distance m (home m hash) bucket)
    home_side =
        (λ stays. grind (arith, common_steps, distance_is, in_home), λ moves. grind (arith, common_steps, distance_is, in_home))

    -- the empty bucket is ahead of a full one too
    farther : probe_distance m start bucket < probe_distance m start vacant
    farther = grind (arith, common_steps, distance_same, full_from, is)

    next-lt : next < m
    next-lt = omega (arith, after_is m bucket 1, s.bucket_in)

    pub one_farther : probe_distance m start next ≡ probe_distance m start bucket + 1
    one_farther = next_farther m start bucket vacant next s.start_in s.bucket_in a.inside farther e

    pub fewer_ahead : m - probe_distance m start next < m - probe_distance m start bucket
    fewer_ahead = omega (arith, one_farther, farther, probe_distance-lt m start s.start_in vacant a.inside)

    -- the pair at the bucket stays: its home is after the gap
    pub Shifts-stay : probe_distance m (home m hash) bucket < probe_distance m gap bucket → Shifts m hashes words start gap next
    Shifts-stay stays = grind (arith, common_steps, distance_same, home_side, is, next-lt, one_farther, same_Some, within)

    pub Ahead-stay : Ahead m hashes words start gap next vacant
    Ahead-stay = record { inside = a.inside; none = a.none; near = omega (arith, one_farther, farther) }

    abbrev word : ℕ
    word = slice_index words bucket

    abbrev words' : List ℕ
    words' = set words gap word

    -- a bucket that is neither is as it was
    other : (q : ℕ) → q ≢ bucket → q ≢ gap → slot_at (around hashes words' bucket) q ≡ slot_at slots q
    other q nb ng =
        hash_of_word-at hashes (set words' bucket 0) q
        ∙ ap (hash_of_word hashes) (word_other words' bucket q 0 nb ∙ word_other words gap q word ng ∙ sym (word_other words gap q 0 ng))
        ∙ sym (hash_of_word-at hashes (set words gap 0) q)

    pub Ahead-move : Ahead m hashes words' start bucket next vacant
    Ahead-move = grind (arith, common_steps, farther, one_farther, other)

    -- the pair at the bucket is moved into the gap: it does not pass its home
    pub Shifts-move : probe_distance m gap bucket ≤ probe_distance m (home m hash) bucket → Shifts m hashes words' start bucket next
    Shifts-move moves =
        let left : List ℕ = set words gap 0 in
        let slots' : List (Option ℕ) = around hashes words' bucket in
        let long' : length words' ≡ m = length-set words gap word ∙ s.size in
        let in_left : length left ≡ m = length-set words gap 0 ∙ s.size in
        let from : slot_at slots' bucket ≡ None =
        slot_of_zero hashes (set words' bucket 0) bucket (word_set words' bucket 0 (omega (arith, s.bucket_in, long'))) in
        let written : slice_index (set words' bucket 0) gap ≡ word =
        word_other words' bucket gap 0 (λ same. apart (sym same)) ∙ word_set words gap word (omega (arith, s.gap_in, s.size)) in
        let to : slot_at slots' gap ≡ Some hash =
        slot_of_word hashes (set words' bucket 0) gap index (omega (arith, word_within)) (written ∙ omega arith) in
        let none = word_set words gap 0 (omega (arith, s.gap_in, s.size)) in
        let same : set words' bucket 0 ≡ set (set left gap (slice_index left bucket)) bucket 0 =
        ap (λ y. set y bucket 0) (sym (set-set words gap 0 word) ∙ ap (set left gap) (sym word_is)) in
        record {
          each = subst (EachOnce (length hashes)) (sym same)
              (EachOnce-move s.each bucket gap (omega (arith, s.bucket_in, in_left)) (omega (arith, s.gap_in, in_left)) apart none);
          size = long';
          start_in = s.start_in;
          gap_in = s.bucket_in;
          bucket_in = next-lt;
          behind = omega (arith, one_farther);
          others = λ q w h at_q in_w none_w nb.
              let ng : w ≢ gap = λ e. full_from _ hash to (ap (slot_at slots') (sym e) ∙ none_w) in
              let old : slot_at slots w ≡ None = sym (other w nb ng) ∙ none_w in
              elim (cases_eq q gap) [
                | inr nq ↦ s.others q w h (sym (other q (λ e. full_from _ h at_q (ap (slot_at slots') e ∙ from)) nq) ∙ at_q) in_w old ng
                | inl at ↦
                    let before = s.others bucket w hash is in_w old ng in
                    grind (arith, common_steps, home_side.1 moves, same_Some, to)
              ];
          passed = λ q h at_q after close. absurd (omega (arith, one_farther));
        }

-- a bucket that is emptied is the only gap
pub HasGap-remove : (slots : List (Option ℕ)) → ProbeInvariant slots → HasVacantSlot slots → (bucket : ℕ) → slot_at slots bucket ≢ None
    → HasGap (set slots bucket None) bucket
HasGap-remove slots ordered vacant bucket full = grind (arith, common_steps)
