-- The words of the buckets: the hashes that they stand for, and that each entry index stands in one of them.
use Rattle.half_store.proofs.Common.{◌≡◌, ◌≤◌, length, ◌+◌, inr, refl, ◌∙◌, arith, ℕ, ◌-◌, ◌<◌, zero, suc, inl, sym, ap, Bool, List, Some, slice_index, None}
use Rattle.half_store.proofs.Common.{[], ◌∷◌, ◌≢◌, true, false, ◌==◌, set, replicate, count_by, cases_lt, cases_eq, eq-eqb, ne_eqb, common_steps, length-set}
use Rattle.half_store.proofs.Common.{get_or-set_same, get_or-set_other, get_or_past, sum_by-cons, slice_get-get_or, slice_get, slots_from, slot_at}
use Rattle.half_store.proofs.Common.{hash_of_word, EachOnce}
use Rattle.std.specs.List.{All}
use Rattle.std.proofs.lemmas.Bool.{cases_Bool}
use Rattle.std.proofs.lemmas.List.{length-map, map-set, ext_get_or}
use Rattle.std.proofs.lemmas.List.Elements.{All-from_get_or, All-set, All-replicate}
use Rattle.std.proofs.lemmas.List.Sums.{sum_by-set, get_or-le-sum_by}
use borrow.Author.Tests.{eqb-true}
use Rattle.half_store.specs.Slots.{WithinHashes}
use Rattle.half_store.proofs.lemmas.table.Counts.{tick, tick_yes, tick_no, count_to, count_to-none, count_by-count_to}
use Rattle.std.proofs.Math.ListN as lists
use Rattle.half_store.proofs.Common.{nat_tests}

pub length-slots_from : (hashes words : List ℕ) → length (slots_from hashes words) ≡ length words
length-slots_from hashes words = length-map words (hash_of_word hashes)

-- bucket by bucket, past the end too
pub hash_of_word-at : (hashes words : List ℕ) (bucket : ℕ) → slot_at (slots_from hashes words) bucket ≡ hash_of_word hashes (slice_index words bucket)
hash_of_word-at hashes words bucket = lists.get_or-map (hash_of_word hashes) words bucket 0

-- a bucket that is written
pub slots_from-set : (hashes words : List ℕ) (bucket word : ℕ)
    → slots_from hashes (set words bucket word) ≡ set (slots_from hashes words) bucket (hash_of_word hashes word)
slots_from-set hashes words bucket word = map-set (hash_of_word hashes) words bucket word

-- two lists of slots are equal if each bucket's word has the same hash in both
pub slots_from-same : (hashes hashes' words words' : List ℕ) → length words ≡ length words'
    → ((bucket : ℕ) → hash_of_word hashes (slice_index words bucket) ≡ hash_of_word hashes' (slice_index words' bucket))
    → slots_from hashes words ≡ slots_from hashes' words'
slots_from-same hashes hashes' words words' long same =
    ext_get_or None (slots_from hashes words) (slots_from hashes' words')
    (length-slots_from hashes words ∙ long ∙ sym (length-slots_from hashes' words'))
    (λ bucket l. hash_of_word-at hashes words bucket ∙ same bucket ∙ sym (hash_of_word-at hashes' words' bucket))

-- the bucket of an entry index has its hash
pub slot_of_word : (hashes words : List ℕ) (bucket index : ℕ) → index < length hashes → slice_index words bucket ≡ suc index
    → slot_at (slots_from hashes words) bucket ≡ Some (slice_index hashes index)
slot_of_word hashes words bucket index in_hashes word = grind (arith, common_steps, slice_get-get_or, hash_of_word-at)

pub slot_of_zero : (hashes words : List ℕ) (bucket : ℕ) → slice_index words bucket ≡ 0 → slot_at (slots_from hashes words) bucket ≡ None
slot_of_zero hashes words bucket word = hash_of_word-at hashes words bucket ∙ ap (hash_of_word hashes) word

index_in : (hashes : List ℕ) (word hash : ℕ) → hash_of_word hashes word ≡ Some hash → (index : ℕ) × (word ≡ suc index)
    × (slice_get hashes index ≡ Some hash)
index_in hashes zero hash e = absurd cc
index_in hashes (suc index) hash e = (index, refl, e)

-- a bucket that has a hash has the word of an entry index with that hash
pub word_of_slot : (hashes words : List ℕ) (bucket hash : ℕ) → slot_at (slots_from hashes words) bucket ≡ Some hash
    → (index : ℕ) × (slice_index words bucket ≡ suc index) × (slice_get hashes index ≡ Some hash)
word_of_slot hashes words bucket hash is = index_in hashes (slice_index words bucket) hash (sym (hash_of_word-at hashes words bucket) ∙ is)

-- a word that was written, and each other one
pub word_set : (words : List ℕ) (p n : ℕ) → p < length words → slice_index (set words p n) p ≡ n
word_set words p n l = get_or-set_same words p n 0 l

pub word_other : (words : List ℕ) (p q n : ℕ) → q ≢ p → slice_index (set words p n) q ≡ slice_index words q
word_other words p q n ne = get_or-set_other words p q n 0 ne

-- a full bucket is one of the buckets
pub word-lt : (words : List ℕ) (p : ℕ) → 0 < slice_index words p → p < length words
word-lt words p full = grind (arith, common_steps, get_or_past)

-- no word is greater
module _ (number : ℕ) (words : List ℕ) where
  pub within-at : (p : ℕ) → All (λ word. word ≤ number) words → slice_index words p ≤ number
  within-at p w = grind (arith, common_steps)

  within-from : ((p : ℕ) → slice_index words p ≤ number) → All (λ word. word ≤ number) words
  within-from each = All-from_get_or (λ word. word ≤ number) words 0 (λ p l. each p)

  within-set : (p n : ℕ) → n ≤ number → All (λ word. word ≤ number) words → All (λ word. word ≤ number) (set words p n)
  within-set p n l w = All-set (λ word. word ≤ number) words p n l w

pub zero_of_slot : (hashes words : List ℕ) (bucket : ℕ) → WithinHashes hashes words → slot_at (slots_from hashes words) bucket ≡ None
    → slice_index words bucket ≡ 0
zero_of_slot hashes words bucket w none =
    grind (arith, common_steps, within-at, slot_of_word hashes words bucket (slice_index words bucket - 1))

-- how a write changes a count
count-set : (test : ℕ → Bool) (words : List ℕ) (p n : ℕ) → p < length words
    → count_by test (set words p n) + tick (test (slice_index words p)) ≡ count_by test words + tick (test n)
count-set test words p n l = sum_by-set (λ word. tick (test word)) words p n 0 l

count-some : (test : ℕ → Bool) (words : List ℕ) (p : ℕ) → p < length words → test (slice_index words p) ≡ true → 1 ≤ count_by test words
count-some test words p l passes = omega (arith, get_or-le-sum_by (λ word. tick (test word)) words p 0 l, tick_yes _ passes)

some_that_passes : (test : ℕ → Bool) (words : List ℕ) → 1 ≤ count_by test words → (p : ℕ) × (p < length words)
    × (test (slice_index words p) ≡ true)
some_that_passes test [] some = absurd (omega arith)
some_that_passes test (word ∷ words) some =
    elim (cases_Bool (test word)) [
      | inl passes ↦ (0, omega arith, passes)
      | inr fails ↦
          let rest = some_that_passes test words (omega (arith, sum_by-cons (λ word. tick (test word)) word words, tick_no _ fails)) in
          (suc rest.0, omega (arith, rest.1), rest.2)
    ]

abbrev is_index : ℕ → ℕ → Bool
is_index index word = word == suc index

not_index : (index : ℕ) → is_index index 0 ≡ false
not_index index = ne_eqb 0 (suc index) (λ e. omega arith)

other_index : (i j : ℕ) → i ≢ j → tick (is_index i (suc j)) ≡ 0
other_index i j ne = tick_no _ (ne_eqb (suc j) (suc i) (λ e. ne (omega arith)))

module _ {number : ℕ} {words : List ℕ} (each : EachOnce number words) where
  -- each entry index has a bucket
  pub some_bucket : (index : ℕ) → index < number → (bucket : ℕ) × (bucket < length words) × (slice_index words bucket ≡ suc index)
  some_bucket index l =
      let found = some_that_passes (is_index index) words (omega (arith, each.once index l)) in
      (found.0, found.1, eqb-true _ _ found.2)

  -- and only one
  pub same_bucket : (p q index : ℕ) → slice_index words p ≡ suc index → slice_index words q ≡ suc index → p ≡ q
  same_bucket p q index at_p at_q =
      elim (cases_eq p q) [
        | inl e ↦ e
        | inr ne ↦
            let once = each.once index (omega (arith, within-at number words p each.within)) in
            let write = count-set (is_index index) words p 0 (word-lt words p (omega arith)) in
            absurd (grind (arith, common_steps, count-some (is_index index) (set words p 0) q, word-lt, eq-eqb, not_index))
      ]

  -- one entry index more, in an empty bucket
  pub EachOnce-add : (p : ℕ) → p < length words → slice_index words p ≡ 0 → EachOnce (suc number) (set words p (suc number))
  EachOnce-add p in_p none = record {
    within = grind (arith, common_steps, within-at, within-from, within-set);
    once = λ index l.
        let write = count-set (is_index index) words p (suc number) in_p in
        let free : tick (is_index index (slice_index words p)) ≡ 0 =
        ap (λ word. tick (is_index index word)) none ∙ tick_no _ (not_index index) in
        elim (cases_eq index number) [
          | inr ne ↦ omega (arith, each.once index (omega arith), other_index index number ne)
          | inl e ↦
              let here = tick_yes _ (eq-eqb (suc number) (suc index) (omega arith)) in
              elim (cases_lt 0 (count_by (is_index index) words)) [
                | inr nowhere ↦ omega arith
                | inl some ↦
                    let found = some_that_passes (is_index index) words some in
                    absurd (omega (arith, within-at number words found.0 each.within, eqb-true _ _ found.2))
              ]
        ];
  }

  -- a word that goes to an empty bucket
  pub EachOnce-move : (from to : ℕ) → from < length words → to < length words → from ≢ to → slice_index words to ≡ 0
      → EachOnce number (set (set words to (slice_index words from)) from 0)
  EachOnce-move from to in_from in_to apart none = record {
    within = grind (arith, common_steps, slice_index, within-at, within-set);
    once = λ index l.
        let one = each.once index l in
        grind (arith, common_steps, count-set (is_index index), length-set, set, slice_index, tick, word_other);
  }

-- the bucket of an entry index is emptied, and the last entry index becomes that one
module _ {last : ℕ} {words : List ℕ} (each : EachOnce (suc last) words) (index bucket last_bucket : ℕ)
    (at : slice_index words bucket ≡ suc index) (at_last : slice_index words last_bucket ≡ suc last) where
  abbrev words° : List ℕ
  words° = set (set words last_bucket (suc index)) bucket 0

  pub length-remove : length words° ≡ length words
  length-remove = simp length-set

  in_bucket : bucket < length words
  in_bucket = word-lt words bucket (omega arith)

  in_last : last_bucket < length words
  in_last = word-lt words last_bucket (omega arith)

  pub remove-at : slice_index words° bucket ≡ 0
  remove-at = grind (arith, common_steps, in_bucket)

  pub remove-last : last_bucket ≢ bucket → slice_index words° last_bucket ≡ suc index
  remove-last ne = grind (arith, common_steps, in_last)

  pub remove-other : (q : ℕ) → q ≢ bucket → q ≢ last_bucket → slice_index words° q ≡ slice_index words q
  remove-other q nb nl = grind (arith, common_steps)

  count-remove : (test : ℕ → Bool) → test 0 ≡ false → count_by test words° + tick (test (suc last)) ≡ count_by test words
  count-remove test fails = grind (arith, common_steps, count-set, in_bucket, in_last, length-set, set, slice_index, tick, tick_no, word_other, word_set)

  pub EachOnce-remove : EachOnce last words°
  EachOnce-remove = record {
    within = within-from last words° (λ q.
        let most : slice_index words° q ≤ suc last =
        grind (arith, common_steps, slice_index, within-at (suc last), within-set (suc last)) in
        elim (cases_eq (slice_index words° q) (suc last)) [
          | inr ne ↦ omega arith
          | inl e ↦
              let some = count-some (is_index last) words° q (word-lt words° q (omega arith)) (eq-eqb _ _ e) in
              absurd (grind (arith, common_steps, count-remove (is_index last) (not_index last), each.once last, nat_tests))
        ]);
    once = λ i l. omega (arith, count-remove (is_index i) (not_index i), each.once i (omega arith), other_index i last (omega arith));
  }

pub EachOnce-empty : (count : ℕ) → EachOnce 0 (replicate count 0)
EachOnce-empty count = record { within = All-replicate (λ word. word ≤ 0) count 0 (omega arith); once = λ index l. absurd (omega arith) }

-- so counting the full buckets is counting the entry indices
pub count_each : (test : ℕ → Bool) → test 0 ≡ false → (number : ℕ) (words : List ℕ) → EachOnce number words
    → count_by test words ≡ count_to (λ index. test (suc index)) number
count_each test fails zero words each =
    count_by-count_to test words 0
    ∙ count_to-none (λ p. test (slice_index words p)) (length words)
    (λ p l. let none : slice_index words p ≡ 0 = omega (arith, within-at 0 words p each.within) in ap test none ∙ fails)
count_each test fails (suc last) words each =
    let b = some_bucket each last (omega arith) in
    let rest = count_each test fails last _ (EachOnce-remove each last b.0 b.0 b.2 b.2) in
    omega (arith, rest, count-remove each last b.0 b.0 b.2 b.2 test fails)
