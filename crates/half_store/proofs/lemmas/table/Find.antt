-- What a search of a table finds, and what a probe costs.
use Rattle.half_store.proofs.Common.{◌≡◌, ◌≤◌, length, ◌+◌, refl, ◌∙◌, arith, ℕ, ◌-◌, ◌<◌, sym, ap, Bool, List, Some, slice_index, Option, subst, ◌≢◌, true}
use Rattle.half_store.proofs.Common.{false, ◌==◌, count_by, common_steps, count_by-le-length, get_or_from_slice_get, slice_get_within, slice_get}
use Rattle.half_store.proofs.Common.{reach, probe_distance, slots_from, slot_at, stored, IsSlotVacancy, distance_from_home, TableState, TableSearch}
use Rattle.half_store.proofs.Common.{state_of_words, IsIndexed, Work, reads_up_to, looked_more, compared_more, slice_get-get_or, suc}
use Rattle.std.specs.Prelude.{Result, Ok, Err}
use Rattle.half_store.specs.Reach.{HomesApart}
use Rattle.half_store.specs.Work.{work_after_miss}
use Rattle.half_store.proofs.lemmas.table.Buckets.{length-slots_from, slot_of_word, slot_of_zero, some_bucket}
use Rattle.half_store.proofs.lemmas.capacity.{buckets_of-capacity_of, capacity_for-capacity_of}
use Rattle.half_store.proofs.lemmas.table.Hits.{hit_reads_in-at, hits_add_up}
use Rattle.half_store.proofs.lemmas.table.Layout.{index-counted, index-vacant, vacancy_reads, at_home, buckets_seen, view_lent, count_seen, IsIndexed-as}
use Rattle.half_store.proofs.lemmas.table.Slots.{Probes-vacancy}
use Rattle.half_store.proofs.lemmas.table.Probe.{SearchedTo, Searches-found, Searches-missing, reach_past_pair, reach_short}
use Rattle.half_store.proofs.lemmas.table.Reach.{reach-none}
use Rattle.half_store.proofs.lemmas.tally.{same_work}
use Rattle.half_store.proofs.lemmas.table.Slots.{home_distance}

module _ {hashes words : List ℕ} (x : IsIndexed hashes words) (hash : ℕ) where
  abbrev slots : List (Option ℕ)
  slots = slots_from hashes words

  -- no probe reads more buckets than one past the held pairs
  short : reach hashes (length words) hash ≤ length hashes + 1
  short = grind (arith, common_steps, index-counted, index-vacant, length-slots_from, reach-none, reach_short)

  -- a search if there are no buckets
  pub finds_none : (returns : ℕ → Bool → Type 0) (w : Work) → length words ≡ 0
      → TableSearch returns (state_of_words hashes words) hash (Err 0) w w
  finds_none returns w none = grind (arith, common_steps, hits_add_up, buckets_seen, count_by-le-length, reach-none, same_work, short, slice_get_within)

  module _ (returns : ℕ → Bool → Type 0) {bucket : ℕ} {old now : Work} (new : Work)
      (s : SearchedTo slots hash (λ p. returns (slice_index words p - 1) false) bucket old now) where
    -- it ends at the pair of this entry index, which is accepted
    pub finds : (index : ℕ) → slice_index words bucket ≡ suc index → index < length hashes → slice_index hashes index ≡ hash
        → returns index true → new ≡ compared_more 1 (looked_more 1 now) → TableSearch returns (state_of_words hashes words) hash (Ok (index, bucket)) old new
    finds index word within has accepted work =
        let size = length-slots_from hashes words in
        let is = slot_of_word hashes words bucket index within word ∙ ap Some has in
        let vacant = index-vacant x (omega (arith, s.probe.inside, size)) in
        let far = subst (λ n. distance_from_home slots hash bucket + 2 ≤ reach hashes n hash) size
        (reach_past_pair slots x.ordered hashes (index-counted x) hash bucket is vacant) in
        let few = Searches-found s is in
        let same = index-counted x (λ h. h == hash) in
        let once : HomesApart hashes (length words) → distance_from_home slots hash bucket ≡ 0 =
        λ apart. home_distance slots hash bucket s.probe.inside (sym (at_home x (rw size apart) vacant bucket hash is)) in
        let looked = ap (λ w. w.looked) work in
        record {
          found = slice_get-get_or hashes index 0 within ∙ ap Some has;
          at = omega (arith, word);
          accepted = accepted;
          rejected = tt;
          vacancy = tt;
          cost = record {
            missing = tt;
            found = grind (arith, common_steps, once);
            hit = looked ∙ omega (arith, s.looked, ap (λ m. reads_up_to m hash bucket) size, hit_reads_in-at x index bucket hash word has);
            hits = hits_add_up x;
            short = short;
          };
          buckets = buckets_seen hashes words x refl;
        }

    -- it ends at an empty bucket
    pub finds_vacancy : slice_index words bucket ≡ 0 → new ≡ looked_more 1 now
        → TableSearch returns (state_of_words hashes words) hash (Err bucket) old new
    finds_vacancy word work =
        let none = slot_of_zero hashes words bucket word in
        let vacancy = Probes-vacancy s.probe none in
        record {
          found = tt;
          at = tt;
          accepted = tt;
          rejected = λ index is.
              let within = slice_get_within hashes index hash is in
              let b = some_bucket x.each index within in
              let entry : slice_index words b.0 - 1 ≡ index = omega (arith, b.2) in
              let has = get_or_from_slice_get hashes index hash 0 is in
              let held = slot_of_word hashes words b.0 index within b.2 ∙ ap Some has in
              subst (λ i. returns i false) entry
              (s.refused b.0 held (x.ordered.before b.0 bucket hash held s.probe.inside none));
          vacancy = λ buckets. vacancy;
          cost = record {
            missing = same_work new (work_after_miss hashes (length words) hash old) (ap (λ w. w.asked) work ∙ s.asked)
                (ap (λ w. w.compared) work ∙ omega (arith, Searches-missing s x.ordered none, index-counted x (λ h. h == hash)))
                (ap (λ w. w.looked) work ∙ omega (arith, s.looked, vacancy_reads x hash bucket vacancy));
            found = tt;
            hit = tt;
            hits = hits_add_up x;
            short = short;
          };
          buckets = buckets_seen hashes words x refl;
        }

-- What was told of columns that are lent, in the words of callers.
module _ {hs ws hashes words : List ℕ} {t : TableState} (view : state_of_words hs ws ≡ t) (h : hashes ≡ hs) (w : ws ≡ words) where
  pub search_seen : {hash : ℕ} {returns : ℕ → Bool → Type 0} {result : Result (ℕ × ℕ) ℕ} {old new : Work}
      → TableSearch returns (state_of_words hashes words) hash result old new → TableSearch returns t hash result old new
  search_seen {hash} {returns} {result} {old} {new} told = subst (λ t. TableSearch returns t hash result old new) (view_lent view h w) told

  pub probe_seen : (hash : ℕ) (old new : Work) → new ≡ looked_more (reach hashes (length words) hash) old
      → new ≡ looked_more (reach t.hashes t.buckets hash) old
  probe_seen hash old new cost = subst (λ (t : TableState). new ≡ looked_more (reach t.hashes t.buckets hash) old) (view_lent view h w) cost

-- what the proofs of `Table` go by
pub ruleset table_steps = (common_steps, IsIndexed-as, buckets_of-capacity_of, buckets_seen, capacity_for-capacity_of, count_seen, index-vacant, view_lent)
