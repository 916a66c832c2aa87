-- The index of a table: what its buckets say of its hashes, a pair that is added, one that is removed, and no pair at all.
use Rattle.half_store.proofs.Common.{◌≡◌, ◌≤◌, length, ◌+◌, ◌++◌, inr, refl, ◌∙◌, arith, ℕ, ◌<◌, zero, suc, inl, sym, ap, Bool, List, Some, slice_index, Option}
use Rattle.half_store.proofs.Common.{None, subst, [], ◌∷◌, ◌≢◌, true, set, replicate, cases_lt, cases_eq, common_steps, length-set, get_or_past}
use Rattle.half_store.proofs.Common.{length-replicate, get_or-replicate, get_or_append_left, get_or_push, count_by-le-length, get_or_from_slice_get}
use Rattle.half_store.proofs.Common.{slice_get-get_or, slice_get_within, same_Some, swap_remove, capacity_of, IsBucketCount, buckets_of, reach, probe_distance, reads_up_to}
use Rattle.half_store.proofs.Common.{home, slots_from, slot_at, hash_of_word, EachOnce, HasVacantSlot, ProbeInvariant, stored, IsSlotVacancy, TableState, distance_from_home}
use Rattle.half_store.proofs.Common.{IsIndexedWithGap, IsOtherEmpty, state_of_words, IsIndexed, AreWordsFor}
use Rattle.std.proofs.lemmas.List.{length_push}
use Rattle.half_store.specs.Reach.{HomesApart}
use Rattle.half_store.specs.Table.{HasGap, IsTable}
use Rattle.half_store.proofs.lemmas.table.Buckets.{length-slots_from, hash_of_word-at, slots_from-set, slots_from-same, slot_of_word, slot_of_zero}
use Rattle.half_store.proofs.lemmas.table.Buckets.{word_of_slot, zero_of_slot, word_set, word_other, word-lt, within-at, same_bucket}
use Rattle.half_store.proofs.lemmas.table.Buckets.{EachOnce-add, EachOnce-remove, EachOnce-empty, length-remove, remove-at, remove-last}
use Rattle.half_store.proofs.lemmas.table.Buckets.{remove-other, count_each}
use Rattle.half_store.proofs.lemmas.table.Mask.{count-le_half}
use Rattle.half_store.proofs.lemmas.tally.{looked_more-zero}
use Rattle.half_store.proofs.lemmas.capacity.{four-le_count, buckets_of-capacity_of}
use Rattle.half_store.proofs.lemmas.table.Circle.{distance_is, distance_self, distance_same, probe_distance-lt}
use Rattle.half_store.proofs.lemmas.table.Counts.{count_to-same, count_by-count_to}
use Rattle.half_store.proofs.lemmas.table.Deletion.{HasGap-remove, word_within}
use Rattle.half_store.proofs.lemmas.table.Probe.{SameCounts, reach_past_pair, reach_at_vacancy}
use Rattle.half_store.proofs.lemmas.table.Slots.{slot_cases, slot_set, slot_other, full_from, full-lt, home-lt}
use Rattle.half_store.proofs.lemmas.table.Slots.{vacancy_for}
use Rattle.half_store.proofs.lemmas.table.Probe.{some_vacant as empty_bucket}

-- a pair that is added where its probe ended keeps the probe invariant
pub ordered-add : (slots : List (Option ℕ)) (p h : ℕ) → IsSlotVacancy slots h p → ProbeInvariant slots → ProbeInvariant (set slots p (Some h))
ordered-add slots p h w o = grind (arith, common_steps, distance_same, full_from, home-lt, length-set, same_Some, set, slot_other, slot_set)

-- what `swap_remove` leaves, entry index by entry index
length-swap_remove : (xs : List ℕ) (i last : ℕ) → suc last ≡ length xs → length (swap_remove xs i 0) ≡ last
length-swap_remove xs i last e = grind (arith, common_steps)

swap_remove-at : (xs : List ℕ) (i last : ℕ) → suc last ≡ length xs → i < last → slice_index (swap_remove xs i 0) i ≡ slice_index xs last
swap_remove-at xs i last e l = grind (arith, common_steps)

swap_remove-other : (xs : List ℕ) (i k last : ℕ) → suc last ≡ length xs → k < last → k ≢ i
    → slice_index (swap_remove xs i 0) k ≡ slice_index xs k
swap_remove-other xs i k last e l ne = grind (arith, common_steps)

module _ {hashes words : List ℕ} (x : IsIndexed hashes words) where
  abbrev slots : List (Option ℕ)
  slots = slots_from hashes words

  long : length slots ≡ length words
  long = length-slots_from hashes words

  -- counting the stored hashes is counting the full buckets
  pub index-counted : SameCounts hashes slots
  index-counted test =
      let passes : ℕ → Bool = λ word. stored test (hash_of_word hashes word) in
      rw (count_by-count_to test hashes 0, count_by-count_to (stored test) slots None, long)
      (count_to-same _ (λ i. passes (suc i)) (length hashes) (λ i l. ap (stored test) (sym (slice_get-get_or hashes i 0 l)))
      ∙ sym (count_each passes refl (length hashes) words x.each) ∙ count_by-count_to passes words 0
      ∙ count_to-same _ _ (length words) (λ p l. ap (stored test) (sym (hash_of_word-at hashes words p))))

  -- if there are buckets, one is empty
  pub index-vacant : 0 < length words → HasVacantSlot slots
  index-vacant some =
      let four = four-le_count (length words) x.count some in
      let room = x.room in
      empty_bucket hashes slots index-counted (omega (arith, long))

  -- a probe that ends at an empty bucket has read what `reach` says
  pub vacancy_reads : (hash p : ℕ) → IsSlotVacancy slots hash p → reach hashes (length words) hash ≡ distance_from_home slots hash p + 1
  vacancy_reads hash p v = ap (λ n. reach hashes n hash) (sym long) ∙ reach_at_vacancy slots x.ordered hashes index-counted hash p v

  -- if no two hashes share a home, each stands there: `bound` counts the steps from an empty bucket
  at_home_below : HomesApart hashes (length slots) → (e : ℕ) → e < length slots → slot_at slots e ≡ None →
      (bound p h : ℕ) → probe_distance (length slots) e p < bound → slot_at slots p ≡ Some h → home (length slots) h ≡ p
  at_home_below apart e in_e none zero p h few is = absurd (omega arith)
  at_home_below apart e in_e none (suc bound) p h few is =
      let m : ℕ = length slots in
      let q : ℕ = home m h in
      let in_p : p < m = full-lt slots p (full_from _ h is) in
      let in_q : q < m = home-lt m h (omega arith) in
      elim (slot_cases (slot_at slots q)) [
        | inl z ↦ absurd (let before = x.ordered.before p q h is in_q z in omega (arith, distance_self m q in_q))
        | inr (g, at_q) ↦ elim (cases_eq q p) [
          | inl same ↦ same
          | inr ne ↦
              let before = x.ordered.before p e h is in_e none in
              let nearer : probe_distance m e q < bound =
              omega (arith, distance_is m q p in_q, distance_is m q e in_q, distance_is m e p in_e, distance_is m e q in_e) in
              let home_q = at_home_below apart e in_e none bound q g nearer at_q in
              let i = word_of_slot hashes words p h is in
              let j = word_of_slot hashes words q g at_q in
              let hash_j = get_or_from_slice_get hashes j.0 g 0 j.2 in
              let homes : home m (slice_index hashes i.0) ≡ home m (slice_index hashes j.0) =
              ap (home m) (get_or_from_slice_get hashes i.0 h 0 i.2) ∙ sym home_q ∙ ap (home m) (sym hash_j) in
              elim (cases_lt i.0 j.0) [
                | inl l ↦ absurd (apart i.0 j.0 0 l (slice_get_within hashes j.0 g j.2) homes)
                | inr ge ↦ elim (cases_lt j.0 i.0) [
                  | inl l ↦ absurd (apart j.0 i.0 0 l (slice_get_within hashes i.0 h i.2) (sym homes))
                  | inr le ↦ same_bucket x.each q p i.0 (j.1 ∙ omega arith) i.1
                ]
              ]
        ]
      ]

  pub at_home : HomesApart hashes (length slots) → HasVacantSlot slots → (p h : ℕ) → slot_at slots p ≡ Some h → home (length slots) h ≡ p
  at_home apart (e, in_e, none) p h is = at_home_below apart e in_e none (suc (probe_distance (length slots) e p)) p h (omega arith) is

  -- a probe from the pair's home bucket comes to it sooner than an unsuccessful one ends
  pub nearer : (index bucket : ℕ) → index < length hashes → slice_index words bucket ≡ suc index
      → reads_up_to (length words) (slice_index hashes index) bucket < reach hashes (length words) (slice_index hashes index)
  nearer index bucket in_hashes word = grind (arith, common_steps, index-counted, index-vacant, long, reach_past_pair, slice_index, slot_of_word, word-lt)

  module _ (p h : ℕ) (w : IsSlotVacancy slots h p) where
    abbrev hashes' : List ℕ
    hashes' = hashes ++ h ∷ []

    abbrev words' : List ℕ
    words' = set words p (suc (length hashes))

    -- a stored hash that is added leaves the others
    more-by : (word : ℕ) → word ≤ length hashes → hash_of_word hashes' word ≡ hash_of_word hashes word
    more-by zero l = refl
    more-by (suc i) l =
        let in_old : i < length hashes = omega arith in
        slice_get-get_or hashes' i 0 (omega (arith, length_push hashes h)) ∙ ap Some (get_or_append_left hashes (h ∷ []) 0 i in_old)
        ∙ sym (slice_get-get_or hashes i 0 in_old)

    pub slots-add : slots_from hashes' words' ≡ set slots p (Some h)
    slots-add =
        slots_from-set hashes' words p (suc (length hashes))
        ∙ ap (λ s. set s p (hash_of_word hashes' (suc (length hashes))))
        (slots_from-same hashes' hashes words words refl
        (λ q. more-by (slice_index words q) (within-at (length hashes) words q x.each.within)))
        ∙ ap (set slots p) (slice_get-get_or hashes' (length hashes) 0 (omega (arith, length_push hashes h))
        ∙ ap Some (get_or_push hashes h 0 (length hashes) refl))

    -- one pair more, at a vacancy for its hash
    pub IsIndexed-add : length hashes < capacity_of (length words) → IsIndexed hashes' words'
    IsIndexed-add few =
        let more : suc (length hashes) ≡ length hashes' = omega (arith, length_push hashes h) in
        record {
          count = rw length-set x.count;
          room = rw length-set (omega arith);
          each = subst (λ n. EachOnce n words') more
              (EachOnce-add x.each p (omega (arith, w.within, long)) (zero_of_slot hashes words p x.each.within w.vacant));
          ordered = rw slots-add (ordered-add slots p h w x.ordered);
        }

  -- the pair of this entry index is taken out, and the last pair gets its index
  module _ (index last bucket last_bucket : ℕ) (is_last : suc last ≡ length hashes) (at : slice_index words bucket ≡ suc index)
      (at_last : slice_index words last_bucket ≡ suc last) where
    abbrev hashes° : List ℕ
    hashes° = swap_remove hashes index 0

    abbrev words° : List ℕ
    words° = set (set words last_bucket (suc index)) bucket 0

    each : EachOnce (suc last) words
    each = subst (λ n. EachOnce n words) (sym is_last) x.each

    length-hashes° : length hashes° ≡ last
    length-hashes° = length-swap_remove hashes index last is_last

    -- the word of another bucket has the hash that it had
    other-by : (q word : ℕ) → q ≢ bucket → q ≢ last_bucket → slice_index words q ≡ word → hash_of_word hashes° word ≡ hash_of_word hashes word
    other-by q zero nb nl e = refl
    other-by q (suc i) nb nl e =
        let not_index : i ≢ index = λ same. nb (same_bucket each q bucket index (e ∙ ap suc same) at) in
        let not_last : i ≢ last = λ same. nl (same_bucket each q last_bucket last (e ∙ ap suc same) at_last) in
        let few : i < last = omega (arith, within-at (suc last) words q each.within) in
        slice_get-get_or hashes° i 0 (omega (arith, length-hashes°)) ∙ ap Some (swap_remove-other hashes index i last is_last few not_index)
        ∙ sym (slice_get-get_or hashes i 0 (omega arith))

    slot-remove : (q : ℕ) → hash_of_word hashes° (slice_index words° q) ≡ hash_of_word hashes (slice_index (set words bucket 0) q)
    slot-remove q =
        elim (cases_eq q bucket) [
          | inl e ↦
              let here = remove-at each index bucket last_bucket at at_last in
              grind (arith, common_steps, word_set words bucket 0, word-lt words bucket)
          | inr nb ↦
              let old : slice_index (set words bucket 0) q ≡ slice_index words q = word_other words bucket q 0 nb in
              elim (cases_eq q last_bucket) [
                | inr nl ↦
                    ap (hash_of_word hashes°) (remove-other each index bucket last_bucket at at_last q nb nl)
                    ∙ other-by q (slice_index words q) nb nl refl ∙ ap (hash_of_word hashes) (sym old)
                | inl e ↦
                    let apart : last_bucket ≢ bucket = λ same. nb (e ∙ same) in
                    let not_last : index ≢ last = λ same. apart (same_bucket each last_bucket bucket last at_last (at ∙ ap suc same)) in
                    let few : index < last = omega (arith, within-at (suc last) words bucket each.within) in
                    ap (λ b. hash_of_word hashes° (slice_index words° b)) e
                    ∙ ap (hash_of_word hashes°) (remove-last each index bucket last_bucket at at_last apart)
                    ∙ slice_get-get_or hashes° index 0 (omega (arith, length-hashes°))
                    ∙ ap Some (swap_remove-at hashes index last is_last few)
                    ∙ sym (ap (hash_of_word hashes) (old ∙ ap (slice_index words) e ∙ at_last) ∙ slice_get-get_or hashes last 0 (omega arith))
              ]
        ]

    slots-remove : slots_from hashes° words° ≡ set slots bucket None
    slots-remove =
        slots_from-same hashes° hashes words° (set words bucket 0)
        (length-remove each index bucket last_bucket at at_last ∙ sym (length-set words bucket 0)) slot-remove
        ∙ slots_from-set hashes words bucket 0

    hash° : slot_at slots bucket ≡ Some (slice_index hashes index)
    hash° = slot_of_word hashes words bucket index (omega (arith, within-at (suc last) words bucket each.within)) at

    some_vacant : HasVacantSlot slots
    some_vacant = index-vacant (let l = word-lt words bucket (omega arith) in omega arith)

    -- what the backward shift begins with
    pub IsIndexed-remove : IsIndexedWithGap hashes° words° bucket
    IsIndexed-remove =
        let same = length-remove each index bucket last_bucket at at_last in
        let full = full_from _ _ hash° in
        record {
          room = subst (λ m. length hashes° ≤ capacity_of m) (sym same) (let room = x.room in omega (arith, length-hashes°));
          each = subst (λ n. EachOnce n words°) (sym length-hashes°) (EachOnce-remove each index bucket last_bucket at at_last);
          gap = subst (λ s. HasGap s bucket) (sym slots-remove) (HasGap-remove slots x.ordered some_vacant bucket full);
        }

    -- an empty bucket ends the shift where an unsuccessful probe for the hash of the pair ends
    pub vacant-remove : (vacant : ℕ) × IsOtherEmpty (slots_from hashes° words°) bucket vacant
        × (probe_distance (length words) (home (length words) (slice_index hashes index)) bucket
        + probe_distance (length words) bucket vacant + 1 ≡ reach hashes (length words) (slice_index hashes index))
    vacant-remove =
        let hash : ℕ = slice_index hashes index in
        let v = vacancy_for slots hash some_vacant in
        let m : ℕ = length slots in
        let in_b : bucket < m = full-lt slots bucket (full_from _ _ hash°) in
        let in_h : home m hash < m = home-lt m hash (omega arith) in
        let apart : v.0 ≢ bucket = λ e. full_from _ _ hash° (ap (slot_at slots) (sym e) ∙ v.1.vacant) in
        let before = x.ordered.before bucket v.0 hash hash° v.1.within v.1.vacant in
        let far : probe_distance m (home m hash) bucket + probe_distance m bucket v.0 + 1 ≡ reach hashes m hash =
        grind (arith, common_steps, distance_is, reach_at_vacancy slots x.ordered hashes index-counted hash v.0 v.1) in (
          v.0,
          rw slots-remove
              (omega (arith, length-set slots bucket None, v.1.within), slot_other slots bucket v.0 None apart ∙ v.1.vacant, apart),
          rw long at far,
        )

-- no pair
pub IsIndexed-empty : (count : ℕ) → IsBucketCount count → IsIndexed [] (replicate count 0)
IsIndexed-empty count b = record {
  count = rw length-replicate b;
  room = omega arith;
  each = EachOnce-empty count;
  ordered = record {
    before = λ q v h is in_v none.
        let zero_at : slice_index (replicate count 0) q ≡ 0 = grind (arith, common_steps, cases_lt q count) in
        absurd (full_from _ h is (slot_of_zero [] (replicate count 0) q zero_at));
  };
}

-- equal columns
pub IsIndexed-as : {hashes hashes' words words' : List ℕ} → hashes' ≡ hashes → words' ≡ words → IsIndexed hashes words
    → IsIndexed hashes' words'
IsIndexed-as {hashes} {hashes'} {words} {words'} h w x = subst (λ y. IsIndexed y words') (sym h) (subst (IsIndexed hashes) (sym w) x)

-- equal columns, with the capacity that they want
pub IsTable-as : {hashes words hashes' words' : List ℕ} {most most' capacity : ℕ} → hashes' ≡ hashes → words' ≡ words → most' ≡ most
    → IsIndexed hashes words → AreWordsFor most (capacity_of (length words)) → capacity ≡ capacity_of (length words)
    → IsTable hashes' words' most' capacity
IsTable-as h w m x sized exact = grind (arith, common_steps)

-- the columns of a table, as they are lent, are its value
pub view_lent : {hashes hs words ws : List ℕ} {t : TableState} → state_of_words hs ws ≡ t → hashes ≡ hs → ws ≡ words
    → state_of_words hashes words ≡ t
view_lent view h w = (λ i. state_of_words (h i) (sym w i)) ∙ view

-- a table has as many buckets as words, and they are those of its capacity
pub count_seen : (hashes words : List ℕ) {t : TableState} → state_of_words hashes words ≡ t → length words ≡ t.buckets
count_seen hashes words view = ap (λ v. v.buckets) view

pub buckets_seen : (hashes words : List ℕ) {t : TableState} → IsIndexed hashes words → state_of_words hashes words ≡ t
    → t.buckets ≡ buckets_of (capacity_of t.buckets)
buckets_seen hashes words x view = grind (arith, common_steps, buckets_of-capacity_of, count_seen)

-- what the proofs of removals go by
pub ruleset deletion_steps = (common_steps, count-le_half, distance_self, looked_more-zero, nearer, probe_distance-lt, word_within)
