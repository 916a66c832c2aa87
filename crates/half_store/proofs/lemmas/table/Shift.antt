-- A pair that becomes the last one: the buckets contain what they did, and then it is removed.
use Rattle.half_store.proofs.Common.{◌≡◌, ◌≤◌, length, ◌+◌, ◌++◌, ◌*◌, inr, refl, ◌∙◌, arith, ℕ, ◌-◌, ◌<◌, zero, suc, inl, sym, ap, List, Some, slice_index}
use Rattle.half_store.proofs.Common.{subst, [], ◌∷◌, if◌then◌else◌, ◌==◌, nat_lt, cases_lt, cases_eq, nat_tests, get_or_append_left, get_or_push}
use Rattle.half_store.proofs.Common.{get_or_default, slice_get-get_or, remove, capacity_of, IsBucketCount, reach, slots_from, hash_of_word, EachOnce}
use Rattle.half_store.proofs.Common.{ProbeInvariant, IsIndexed, removal_reads}
use Rattle.std.proofs.Common.{IsPermutation}
use Rattle.std.proofs.lemmas.List.{length_push}
use Rattle.std.proofs.lemmas.List.Edits.{length-remove, get_or-remove_below, get_or-remove_above}
use Rattle.std.proofs.lemmas.List.Elements.{All-from_get_or}
use Rattle.std.proofs.lemmas.List.Sorted.{IsPermutation-append_comm, IsPermutation-remove, IsPermutation-trans}
use Rattle.half_store.specs.StoreRemoval.{word_after_move, MovesToEnd}
use Rattle.half_store.proofs.lemmas.table.Buckets.{slots_from-same, within-at}
use Rattle.half_store.proofs.lemmas.table.Counts.{count_to-same, count_by-count_to}
use Rattle.half_store.proofs.lemmas.table.History.{reach-permutation}

module _ (pairs index : ℕ) (within : index < pairs) where
  -- no word is past the last one
  pub moved_word-le : (word : ℕ) → word ≤ pairs → word_after_move pairs index word ≤ pairs
  moved_word-le word l = grind (arith, nat_tests)

  -- the entry index that becomes this one
  abbrev before : ℕ → ℕ
  before at = if nat_lt at index then at else (if suc at == pairs then index else suc at)

  before-lt : (at : ℕ) → at < pairs → before at < pairs
  before-lt at l = grind (arith, nat_tests)

  -- a word leads to an entry index where it led to the one that becomes it
  same_test : (at word : ℕ) → at < pairs → word ≤ pairs → (word_after_move pairs index word == suc at) ≡ (word == suc (before at))
  same_test at word l few = grind (arith, nat_tests)

-- the hash of a word by one column is that of another word by another
same_hash : (hashes hashes' : List ℕ) (word' at at' : ℕ) → word' ≡ suc at' → at < length hashes → at' < length hashes'
    → slice_index hashes' at' ≡ slice_index hashes at → hash_of_word hashes' word' ≡ hash_of_word hashes (suc at)
same_hash hashes hashes' word' at at' is within within' same =
    ap (hash_of_word hashes') is ∙ slice_get-get_or hashes' at' 0 within' ∙ ap Some same ∙ sym (slice_get-get_or hashes at 0 within)

module _ (hashes : List ℕ) (index : ℕ) (within : index < length hashes) where
  abbrev moved : List ℕ
  moved = remove hashes index ++ slice_index hashes index ∷ []

  pub length-moved : length moved ≡ length hashes
  length-moved = omega (arith, length_push (remove hashes index) (slice_index hashes index), length-remove hashes index within)

  -- each word has the hash that it had
  hash-moved : (word : ℕ) → word ≤ length hashes → hash_of_word moved (word_after_move (length hashes) index word) ≡ hash_of_word hashes word
  hash-moved zero l = ap (hash_of_word moved) (let e : word_after_move (length hashes) index 0 ≡ 0 = grind (arith, nat_tests) in e)
  hash-moved (suc at) l =
      let left = length-remove hashes index within in
      elim (cases_lt at index) [
        | inl lt ↦ same_hash hashes moved _ at at (grind (arith, nat_tests)) l (omega (arith, length-moved))
            (get_or_append_left (remove hashes index) _ 0 at (omega arith) ∙ get_or-remove_below hashes index 0 at lt within)
        | inr ge ↦ elim (cases_eq at index) [
          | inl e ↦ same_hash hashes moved _ at (length hashes - 1) (grind (arith, nat_tests)) l (omega (arith, length-moved))
              (get_or_push (remove hashes index) _ 0 (length hashes - 1) (omega arith) ∙ ap (slice_index hashes) (sym e))
          | inr ne ↦
              let one : at - 1 + 1 ≡ at = omega arith in
              same_hash hashes moved _ at (at - 1) (grind (arith, nat_tests)) l (omega (arith, length-moved))
              (get_or_append_left (remove hashes index) _ 0 (at - 1) (omega arith)
              ∙ get_or-remove_above hashes index 0 (at - 1) (omega arith) within ∙ ap (slice_index hashes) one)
        ]
      ]

  module _ (last : ℕ) (is_last : suc last ≡ length hashes) where
    last-moved : (at : ℕ) → at ≡ last → slice_index moved at ≡ slice_index hashes index
    last-moved at e = get_or_push (remove hashes index) _ 0 at (omega (arith, length-remove hashes index within))

    same_elements : IsPermutation hashes moved
    same_elements =
        IsPermutation-trans hashes _ moved (IsPermutation-remove hashes index (slice_index hashes index) within
        (get_or_default hashes index 0 (slice_index hashes index) within))
        (IsPermutation-append_comm (slice_index hashes index ∷ []) (remove hashes index))

    -- to remove the last one then reads no more than two unsuccessful probes
    pub reads-moved : (m : ℕ) → removal_reads moved m last ≤ 2 * reach hashes m (slice_index hashes index)
    reads-moved m =
        let there = reach-permutation hashes moved m (slice_index hashes index) same_elements in
        rw (last-moved last refl, last-moved (length moved - 1) (omega (arith, length-moved))) (omega arith)

  module _ {words words' : List ℕ} (x : IsIndexed hashes words) (m : MovesToEnd (length hashes) index words words') where
    slots-moved : slots_from moved words' ≡ slots_from hashes words
    slots-moved = slots_from-same moved hashes words' words m.len
        (λ bucket. ap (hash_of_word moved) (m.words bucket) ∙ hash-moved _ (within-at (length hashes) words bucket x.each.within))

    each-moved : EachOnce (length hashes) words'
    each-moved = record {
      within = All-from_get_or (λ word. word ≤ length hashes) words' 0 (λ bucket l. subst (λ word. word ≤ length hashes) (sym (m.words bucket))
          (moved_word-le (length hashes) index within _ (within-at (length hashes) words bucket x.each.within)));
      once = λ at l.
          rw (count_by-count_to (λ word. word == suc at) words' 0, m.len)
          (count_to-same _ (λ bucket. slice_index words bucket == suc (before (length hashes) index within at)) (length words)
          (λ bucket in_words. rw m.words
          (same_test (length hashes) index within at _ l (within-at (length hashes) words bucket x.each.within))))
          ∙ sym (count_by-count_to (λ word. word == suc (before (length hashes) index within at)) words 0)
          ∙ x.each.once _ (before-lt (length hashes) index within at l);
    }

    -- the buckets lead to the moved hashes
    pub IsIndexed-moved : IsIndexed moved words'
    IsIndexed-moved = record {
      count = subst IsBucketCount (sym m.len) x.count;
      room = subst (λ n. length moved ≤ capacity_of n) (sym m.len) (let room = x.room in omega (arith, length-moved));
      each = subst (λ n. EachOnce n words') (sym length-moved) each-moved;
      ordered = subst ProbeInvariant (sym slots-moved) x.ordered;
    }
