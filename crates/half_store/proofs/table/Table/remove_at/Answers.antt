use Rattle.half_store.proofs.Common.{◌≡◌, length, take, ◌+◌, refl, ◌∙◌, arith, ℕ, ◌-◌, ◌<◌, suc, sym, ap, subst, List, slice_index, set, length-set}
use Rattle.half_store.proofs.Common.{get_or, get_or_default, swap_remove, slice_get, Some, probe_distance, IsIndexedWithGap, IsIndexed, Work, ReadsWithin, reach, words_of}
use Rattle.std.proofs.lemmas.List.{set-get_or}
use Rattle.std.proofs.lemmas.Option.{slice_get_read}
use Rattle.half_store.specs.Work.{looked_more, reads_up_to, removal_reads_at}
use Rattle.half_store.specs.StoreRemoval.{ShiftReadsWithin}
use Rattle.half_store.specs.Table.{TableState, state_of_words, IsTablePlace, RemovesFromTable}
use Rattle.half_store.proofs.lemmas.table.Find.{table_steps}
use Rattle.half_store.proofs.lemmas.table.Layout.{IsIndexed-remove, vacant-remove, nearer, view_lent}
use Rattle.half_store.proofs.table.Table.remove_at.Goals.{After-as_slice-in-FourBytes, After-as_slice-in-EightBytes}
use Rattle.half_store.proofs.table.Table.remove_at.Goals.{then-index-last, else-index-last, then-index-last-2, else-index-last-2}
use Rattle.half_store.proofs.table.Table.remove_at.Goals as goal

-- what is left of a column, whatever the default
left : (xs : List ℕ) (index x : ℕ) → index < length xs → swap_remove xs index x ≡ swap_remove xs index 0
left xs index x few = ap (λ y. take (length xs - 1) (set xs index y)) (get_or_default xs (length xs - 1) x 0 (omega arith))

-- the bucket of the last pair has this entry index now
record Renamed (hs ws : List ℕ) (index : ℕ) (words : List ℕ) (old new : Work) : Type 0 where
  last_bucket : ℕ
  at_last : slice_index ws last_bucket ≡ length hs
  written : words ≡ set ws last_bucket (index + 1)
  asked : new.asked ≡ old.asked
  compared : new.compared ≡ old.compared
  near : new.looked < old.looked + reach hs (length ws) (slice_index hs (length hs - 1))

-- a table whose columns are lent
module _ {hs given ws : List ℕ} {t : TableState} (view : state_of_words hs given ≡ t) (indexed : IsIndexed hs given) (lent : given ≡ ws) (index bucket : ℕ)
    (within° : index < length t.hashes) (at° : IsTablePlace t index bucket) where
  seen : state_of_words hs ws ≡ t
  seen = view_lent view refl lent

  x : IsIndexed hs ws
  x = subst (IsIndexed hs) lent indexed

  within : index < length hs
  within = subst (λ (t : TableState). index < length t.hashes) (sym seen) within°

  one : index + 1 ≡ suc index
  one = omega arith

  at : slice_index ws bucket ≡ suc index
  at = subst (λ (t : TableState). IsTablePlace t index bucket) (sym seen) at° ∙ one

  is_last : suc (length hs - 1) ≡ length hs
  is_last = omega (arith, within)

  -- another pair is the last one, and is probed for
  renamed : {words : List ℕ} (last_bucket : ℕ) {old mid new : Work} → slice_index ws last_bucket ≡ length hs - 1 + 1
      → mid ≡ looked_more (reads_up_to (length ws) (slice_index hs (length hs - 1)) last_bucket) old → new ≡ mid
      → words ≡ set ws last_bucket (index + 1) → Renamed hs ws index words old new
  renamed last_bucket {old} last cost same set_there =
      let at_last : slice_index ws last_bucket ≡ length hs = last ∙ omega (arith, is_last) in
      let near = nearer x (length hs - 1) last_bucket (omega (arith, within)) (at_last ∙ sym is_last) in
      let spent = same ∙ cost in
      record {
        last_bucket = last_bucket;
        at_last = at_last;
        written = set_there;
        asked = ap (λ w. w.asked) spent;
        compared = ap (λ w. w.compared) spent;
        near = omega (arith, ap (λ w. w.looked) spent, near);
      }

  -- it is the last one
  kept : {words : List ℕ} {old new : Work} → index ≡ length hs - 1 → words ≡ ws → new ≡ old → Renamed hs ws index words old new
  kept last same spent =
      let at_last : slice_index ws bucket ≡ length hs = at ∙ omega (arith, last, within) in
      let near = nearer x (length hs - 1) bucket (omega (arith, within)) (at_last ∙ sym is_last) in
      record {
        last_bucket = bucket;
        at_last = at_last;
        written = same ∙ sym (set-get_or ws bucket 0) ∙ ap (set ws bucket) (at ∙ sym one);
        asked = ap (λ w. w.asked) spent;
        compared = ap (λ w. w.compared) spent;
        near = omega (arith, ap (λ w. w.looked) spent, near);
      }

  -- the pair at this entry index is gone, and the last pair stands in the bucket where it stood
  module _ (hash : ℕ) {hashes words : List ℕ} {old mid : Work} (h : hashes ≡ swap_remove hs index hash) (r : Renamed hs ws index words old mid) where
    rest : hashes ≡ swap_remove hs index 0
    rest = h ∙ left hs index hash within

    gap_left : IsIndexedWithGap hashes (set words bucket 0) bucket
    gap_left = rw (rest, r.written, one) (IsIndexed-remove x index (length hs - 1) bucket r.last_bucket is_last at (r.at_last ∙ sym is_last))

    cost_left : {new : Work} → ShiftReadsWithin hashes words bucket mid new → ReadsWithin (removal_reads_at t.hashes t.buckets index bucket) old new
    cost_left {new} told =
        let v = vacant-remove x index (length hs - 1) bucket r.last_bucket is_last at (r.at_last ∙ sym is_last) in
        let shift = (rw (rest, r.written, one) at told) v.0 v.1 in
        let far = ap (λ n. probe_distance n bucket v.0) (length-set ws r.last_bucket (suc index)) in
        subst (λ (t : TableState). ReadsWithin (removal_reads_at t.hashes t.buckets index bucket) old new) seen (record {
          asked = shift.asked ∙ r.asked;
          compared = shift.compared ∙ r.compared;
          looked = omega (arith, shift.looked, r.near, v.2, far);
        })

    removes : {new : List ℕ} → hash ≡ get_or hs index hash → length new ≡ length words → RemovesFromTable t index (state_of_words hashes new) hash
    removes {new} read len = record {
      hash = subst (λ (t : TableState). slice_get t.hashes index ≡ Some hash) seen (slice_get_read hs _ index _ refl within read);
      hashes = rest ∙ ap (λ t. swap_remove t.hashes index 0) seen;
      buckets = len ∙ ap length r.written ∙ length-set ws r.last_bucket (index + 1) ∙ ap (λ t. t.buckets) seen;
    }

in_four_bytes : (c : After-as_slice-in-FourBytes)
    → Renamed c.self.inside.hashes.items c.in-FourBytes.buckets c.args.index c.if-index-last.buckets c.args.tally.now c.if-index-last.tally
in_four_bytes c =
    let len : c.len-last.result ≡ length c.self.inside.hashes.items = grind (arith, table_steps) in
    let ends = ap (λ n. n - 1) len in
    elim c.if-index-last.branch [
      | then-index-last w ↦
          renamed c.self.view_is c.self.invariant.indexed (ap words_of c.in-FourBytes.is) _ _ c.requires.within c.requires.at w.bucket_of-last_bucket.result
          (w.bucket_of-last_bucket.ensures.at ∙ ap (λ n. n + 1) ends) (rw (w.as_slice.ensures.value, len) at w.bucket_of-last_bucket.ensures.cost) w.tally-is
          (w.buckets-is ∙ w.set_word.ensures.words)
      | else-index-last w ↦
          kept c.self.view_is c.self.invariant.indexed (ap words_of c.in-FourBytes.is) _ _ c.requires.within c.requires.at
          (w.if-index-last.false ∙ ends) w.buckets-is w.tally-is
    ]

pub backward_shift-requires-clause-removed : goal.backward_shift-requires-clause-removed
backward_shift-requires-clause-removed c =
    gap_left c.self.view_is c.self.invariant.indexed (ap words_of c.in-FourBytes.is) _ _ c.requires.within c.requires.at _
    (c.as_slice-in-FourBytes.ensures.value ∙ c.swap_remove-hash.ensures.items) (in_four_bytes (goal.at.backward_shift-requires-clause-removed c).After-as_slice-in-FourBytes)

pub returns-after-index-last-clause-removes : goal.returns-after-index-last-clause-removes
returns-after-index-last-clause-removes c =
    removes c.self.view_is c.self.invariant.indexed (ap words_of c.in-FourBytes.is) _ _ c.requires.within c.requires.at _
    c.swap_remove-hash.ensures.items (in_four_bytes (goal.at.returns-after-index-last-clause-removes c).After-as_slice-in-FourBytes) c.swap_remove-hash.ensures.value c.backward_shift.ensures.len

pub returns-after-index-last-clause-cost : goal.returns-after-index-last-clause-cost
returns-after-index-last-clause-cost c =
    cost_left c.self.view_is c.self.invariant.indexed (ap words_of c.in-FourBytes.is) _ _ c.requires.within c.requires.at _
    (c.as_slice-in-FourBytes.ensures.value ∙ c.swap_remove-hash.ensures.items) (in_four_bytes (goal.at.returns-after-index-last-clause-cost c).After-as_slice-in-FourBytes) c.backward_shift.ensures.cost

in_eight_bytes : (c : After-as_slice-in-EightBytes)
    → Renamed c.self.inside.hashes.items c.in-EightBytes.buckets c.args.index c.if-index-last-2.buckets c.args.tally.now c.if-index-last-2.tally
in_eight_bytes c =
    let len : c.len-last-in-EightBytes.result ≡ length c.self.inside.hashes.items = grind (arith, table_steps) in
    let ends = ap (λ n. n - 1) len in
    elim c.if-index-last-2.branch [
      | then-index-last-2 w ↦
          renamed c.self.view_is c.self.invariant.indexed (ap words_of c.in-EightBytes.is) _ _ c.requires.within c.requires.at w.bucket_of-last_bucket-then-index-last-2.result
          (w.bucket_of-last_bucket-then-index-last-2.ensures.at ∙ ap (λ n. n + 1) ends) (rw (w.as_slice-then-index-last-2.ensures.value, len) at w.bucket_of-last_bucket-then-index-last-2.ensures.cost) w.tally-is
          (w.buckets-is ∙ w.set_word-then-index-last-2.ensures.words)
      | else-index-last-2 w ↦
          kept c.self.view_is c.self.invariant.indexed (ap words_of c.in-EightBytes.is) _ _ c.requires.within c.requires.at
          (w.if-index-last-2.false ∙ ends) w.buckets-is w.tally-is
    ]

pub backward_shift-requires-in-EightBytes-clause-removed : goal.backward_shift-requires-in-EightBytes-clause-removed
backward_shift-requires-in-EightBytes-clause-removed c =
    gap_left c.self.view_is c.self.invariant.indexed (ap words_of c.in-EightBytes.is) _ _ c.requires.within c.requires.at _
    (c.as_slice-in-EightBytes.ensures.value ∙ c.swap_remove-hash-in-EightBytes.ensures.items) (in_eight_bytes (goal.at.backward_shift-requires-in-EightBytes-clause-removed c).After-as_slice-in-EightBytes)

pub returns-after-index-last-2-clause-removes : goal.returns-after-index-last-2-clause-removes
returns-after-index-last-2-clause-removes c =
    removes c.self.view_is c.self.invariant.indexed (ap words_of c.in-EightBytes.is) _ _ c.requires.within c.requires.at _
    c.swap_remove-hash-in-EightBytes.ensures.items (in_eight_bytes (goal.at.returns-after-index-last-2-clause-removes c).After-as_slice-in-EightBytes) c.swap_remove-hash-in-EightBytes.ensures.value c.backward_shift-in-EightBytes.ensures.len

pub returns-after-index-last-2-clause-cost : goal.returns-after-index-last-2-clause-cost
returns-after-index-last-2-clause-cost c =
    cost_left c.self.view_is c.self.invariant.indexed (ap words_of c.in-EightBytes.is) _ _ c.requires.within c.requires.at _
    (c.as_slice-in-EightBytes.ensures.value ∙ c.swap_remove-hash-in-EightBytes.ensures.items) (in_eight_bytes (goal.at.returns-after-index-last-2-clause-cost c).After-as_slice-in-EightBytes) c.backward_shift-in-EightBytes.ensures.cost
