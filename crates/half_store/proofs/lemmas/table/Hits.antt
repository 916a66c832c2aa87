-- What searches read that find their pairs: all together as much as insertions do that fill an empty table.
use Rattle.half_store.proofs.Common.{◌≡◌, ◌≤◌, length, ◌+◌, inr, refl, ◌∙◌, arith, ℕ, ◌<◌, zero, suc, inl, sym, ap, Bool, List, Some, slice_index, Option, None}
use Rattle.half_store.proofs.Common.{subst, [], ◌∷◌, false, ◌==◌, cond, cases_lt, eq-eqb, filling_reads_in, probe_distance, home, bucket_is_loaded}
use Rattle.half_store.proofs.Common.{slots_from, slot_at, HasVacantSlot, ProbeInvariant, state_of_words, IsIndexed, reads_up_to}
use Rattle.std.proofs.Common.{sum_by}
use Rattle.std.proofs.lemmas.Bool.{cond-true, false≢true}
use Rattle.std.proofs.lemmas.List.Sums.{fails_before_first, passes_at_first}
use Rattle.std.specs.List.{position_or_len}
use borrow.Author.Tests.{eqb-true}
use Rattle.half_store.specs.Slots.{bucket_of}
use Rattle.half_store.specs.Table.{hit_reads_in, all_hit_reads_in}
use Rattle.half_store.specs.Work.{sum_below}
use Rattle.half_store.proofs.lemmas.capacity.{four-le_count}
use Rattle.half_store.proofs.lemmas.table.Buckets.{length-slots_from, slot_of_word, slot_of_zero, within-at, some_bucket, same_bucket}
use Rattle.half_store.proofs.lemmas.table.Circle.{distance_is, probe_distance-lt}
use Rattle.half_store.proofs.lemmas.table.Filled.{IsTableOf, slots_with, table_of, filled}
use Rattle.half_store.proofs.lemmas.table.Layout.{index-counted}
use Rattle.half_store.proofs.lemmas.table.Probe.{SameCounts, some_vacant, loaded_where_full, unloaded_where_vacant}
use Rattle.half_store.proofs.lemmas.table.Slots.{slot_cases, full_from, home-lt}
use Rattle.half_store.proofs.lemmas.table.Sums.{below-same, below-plus, below-swap, below-zero, below-one, of_slot, slot_reads, same_sums, sum_by-below}
use Rattle.half_store.proofs.Common.{common_steps}
use Rattle.half_store.proofs.Common.{nat_tests}

-- the distances from bucket v to the homes
abbrev homes_from : ℕ → ℕ → List ℕ → ℕ
homes_from m v hashes = sum_by (λ h. probe_distance m v (home m h)) hashes

-- the distances from bucket v to the loaded buckets, and one more for each
abbrev loaded_from : ℕ → ℕ → List ℕ → ℕ
loaded_from m v hashes = sum_below m (λ p. cond (bucket_is_loaded hashes m p) (probe_distance m v p + 1) 0)

module _ (slots : List (Option ℕ)) (ordered : ProbeInvariant slots) (hashes : List ℕ) (counted : SameCounts hashes slots)
    (v : ℕ) (in_v : v < length slots) (none : slot_at slots v ≡ None) where
  abbrev m : ℕ
  m = length slots

  abbrev weight : ℕ → ℕ
  weight h = probe_distance m v (home m h)

  -- no pair passes an empty bucket, so the way from there to the pair leads over its home
  at_bucket : (p : ℕ) → p < m → (slot : Option ℕ) → slot_at slots p ≡ slot
      → of_slot (λ h. reads_up_to m h p) slot + of_slot weight slot ≡ cond (bucket_is_loaded hashes m p) (probe_distance m v p + 1) 0
  at_bucket p in_p None is = rw (unloaded_where_vacant slots ordered hashes counted p in_p is) refl
  at_bucket p in_p (Some h) is =
      let before = ordered.before p v h is in_v none in
      let in_h = home-lt m h (omega arith) in
      rw (loaded_where_full slots ordered hashes counted p (full_from _ h is) (v, in_v, none))
      (grind (arith, common_steps, distance_is))

  spread : slot_reads m slots + homes_from m v hashes ≡ loaded_from m v hashes
  spread =
      ap (λ s. slot_reads m slots + s)
      (same_sums hashes slots counted weight m
      (λ h. omega (arith, probe_distance-lt m v in_v (home m h) (home-lt m h (omega arith))))
      ∙ sum_by-below (of_slot weight) slots None)
      ∙ sym (below-plus m (λ p. of_slot (λ h. reads_up_to m h p) (slot_at slots p)) (λ p. of_slot weight (slot_at slots p)))
      ∙ below-same m _ _ (λ p in_p. at_bucket p in_p (slot_at slots p) refl)

module _ {m : ℕ} {hashes : List ℕ} {slots : List (Option ℕ)} (t : IsTableOf m hashes slots) (v : ℕ) (in_v : v < m) where
  within : v < length slots
  within = subst (λ n. v < n) (sym t.long) in_v

  spread_of : slot_at slots v ≡ None → slot_reads m slots + homes_from m v hashes ≡ loaded_from m v hashes
  spread_of none = rw (← t.long) (spread slots t.ordered hashes t.counted v within none)

  none_unloaded : slot_at slots v ≡ None → bucket_is_loaded hashes m v ≡ false
  none_unloaded none = rw (← t.long) (unloaded_where_vacant slots t.ordered hashes t.counted v within none)

  unloaded_vacant : HasVacantSlot slots → bucket_is_loaded hashes m v ≡ false → slot_at slots v ≡ None
  unloaded_vacant some is =
      elim (slot_cases (slot_at slots v)) [
        | inl none ↦ none
        | inr (h, full) ↦ absurd (false≢true (sym is ∙ rw t.long at
            (loaded_where_full slots t.ordered hashes t.counted v (full_from _ h full) some)))
      ]

-- so they are the same in each table of these hashes, whatever its history
pub same_reads : (m : ℕ) (hashes : List ℕ) (some others : List (Option ℕ)) → IsTableOf m hashes some → IsTableOf m hashes others
    → length hashes < m → slot_reads m some ≡ slot_reads m others
same_reads m hashes some others s o few =
    let v = some_vacant hashes some s.counted (subst (λ n. length hashes < n) (sym s.long) few) in
    let u = some_vacant hashes others o.counted (subst (λ n. length hashes < n) (sym o.long) few) in
    let in_v : v.0 < m = subst (λ n. v.0 < n) s.long v.1 in
    let none = unloaded_vacant o v.0 in_v u (none_unloaded s v.0 in_v v.2) in
    omega (arith, spread_of s v.0 in_v v.2, spread_of o v.0 in_v none)

no_hashes : (m : ℕ) (hashes : List ℕ) → length hashes ≡ 0 → filling_reads_in m hashes ≡ 0
no_hashes m [] e = refl
no_hashes m (x ∷ w) e = absurd (omega arith)

module _ {hashes words : List ℕ} (x : IsIndexed hashes words) where
  -- the bucket of an entry index has its word
  pub bucket_of-is : (index : ℕ) → index < length hashes
      → (bucket_of words index < length words) × (slice_index words (bucket_of words index) ≡ suc index)
  bucket_of-is index l =
      let b = some_bucket x.each index l in
      let test : ℕ → Bool = λ word. word == suc index in
      let near : position_or_len test words ≤ b.0 =
      grind (arith, common_steps, fails_before_first test words b.0 0, eq-eqb (slice_index words b.0) (suc index)) in
      let within : position_or_len test words < length words = omega (arith, b.1) in
      (within, eqb-true _ _ (passes_at_first test words 0 within))

  module _ (f : ℕ → ℕ → ℕ) where
    -- what a pair adds in a bucket: it adds nothing in any but its own
    abbrev term : ℕ → ℕ → ℕ
    term index p = cond (slice_index words p == suc index) (f (slice_index hashes index) p) 0

    by_index : (index : ℕ) → index < length hashes
        → sum_below (length words) (term index) ≡ f (slice_index hashes index) (bucket_of words index)
    by_index index l =
        let at = bucket_of-is index l in
        below-one (length words) (bucket_of words index) (term index) at.0
        (λ p in_p ne. grind (arith, nat_tests, same_bucket x.each p (bucket_of words index) index))
        ∙ cond-true _ _ _ (eq-eqb _ _ at.1)

    by_word : (p word : ℕ) → slice_index words p ≡ word
        → sum_below (length hashes) (λ index. term index p) ≡ of_slot (λ h. f h p) (slot_at (slots_from hashes words) p)
    by_word p zero is =
        below-zero (length hashes) (λ index. term index p)
        (λ index l. grind (arith, nat_tests))
        ∙ sym (ap (of_slot (λ h. f h p)) (slot_of_zero hashes words p is))
    by_word p (suc index) is =
        let within : index < length hashes = omega (arith, within-at (length hashes) words p x.each.within) in
        below-one (length hashes) index (λ i. term i p) within
        (λ i l ne. grind (arith, nat_tests))
        ∙ cond-true _ _ _ (eq-eqb _ _ is) ∙ sym (ap (of_slot (λ h. f h p)) (slot_of_word hashes words p index within is))

    pub sum_of_pairs : sum_below (length hashes) (λ index. f (slice_index hashes index) (bucket_of words index))
        ≡ sum_below (length words) (λ p. of_slot (λ h. f h p) (slot_at (slots_from hashes words) p))
    sum_of_pairs =
        sym (below-same (length hashes) _ _ by_index) ∙ below-swap (length hashes) (length words) term
        ∙ below-same (length words) _ _ (λ p in_p. by_word p (slice_index words p) refl)

  table : IsTableOf (length words) hashes (slots_from hashes words)
  table = record { long = length-slots_from hashes words; ordered = x.ordered; counted = index-counted x }

  -- the searches for all held pairs read what the insertions of their hashes read
  pub hits_add_up : all_hit_reads_in (state_of_words hashes words) (length hashes) ≡ filling_reads_in (length words) hashes
  unfolding all_hit_reads_in hit_reads_in
  hits_add_up =
      let m : ℕ = length words in
      let room = x.room in
      sum_of_pairs (λ h p. reads_up_to m h p)
      ∙ elim (cases_lt 0 m) [
        | inl some ↦
            let four = four-le_count m x.count some in
            let few : length hashes < m = omega arith in
            same_reads m hashes (slots_from hashes words) (slots_with m hashes) table (table_of m hashes (omega arith)) few
            ∙ filled m hashes (omega arith)
        | inr none ↦
            let zero_buckets : m ≡ 0 = omega arith in
            let no_pairs : length hashes ≡ 0 = omega arith in
            ap (λ n. sum_below n (λ p. of_slot (λ h. reads_up_to m h p) (slot_at (slots_from hashes words) p))) zero_buckets
            ∙ sym (no_hashes m hashes no_pairs)
      ]

  -- a search that ends at a pair has read what its depth says
  pub hit_reads_in-at : (index p hash : ℕ) → slice_index words p ≡ suc index → slice_index hashes index ≡ hash
      → hit_reads_in (state_of_words hashes words) index ≡ reads_up_to (length words) hash p
  unfolding hit_reads_in
  hit_reads_in-at index p hash word is =
      let within : index < length hashes = omega (arith, within-at (length hashes) words p x.each.within) in
      let at = bucket_of-is index within in
      let same : bucket_of words index ≡ p = same_bucket x.each (bucket_of words index) p index at.1 word in
      (λ i. reads_up_to (length words) (is i) (same i))
