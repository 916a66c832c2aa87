use Rattle.half_store.proofs.Common.{◌≡◌, ◌≤◌, length, inr, refl, ◌∙◌, arith, ℕ, ◌-◌, inl, sym, ap, List, slice_index, subst, ◌≢◌, set, cases_lt}
use Rattle.half_store.proofs.Common.{common_steps, length-set, capacity_of, IsBucketCount, probe_distance, home, IsIndexed, Work, looked_more}
use Rattle.std.proofs.lemmas.List.{set-get_or}
use Rattle.half_store.proofs.lemmas.table.Circle.{probe_distance-lt}
use Rattle.half_store.proofs.lemmas.table.Deletion.{Shifts-start, Ahead-start, word_within, gap_distance, first_distance, one_farther}
use Rattle.half_store.proofs.lemmas.table.Deletion.{fewer_ahead, Shifts-end, Shifts-stay, Ahead-stay, Shifts-move, Ahead-move}
use Rattle.half_store.proofs.lemmas.table.Mask.{count-le_half}
use Rattle.half_store.proofs.lemmas.tally.{looked_more-zero, looked_more-one}
use Rattle.half_store.proofs.table.deletion.backward_shift.Goals as goal

pub loop-word-init : goal.loop-word-init
loop-word-init g c =
    let e = c.next-bucket.ensures.value in
    let words : List ℕ = g.B.Words.words c.args.buckets.now in
    let w : Work = c.args.tally.now in
    let size = sym c.count-count.ensures in
    let begun = Shifts-start c.count-count.result c.args.hashes.now words c.args.removed c.next-bucket.result size c.requires.removed e in
    let one = sym (first_distance begun e) in
    record {
      read = c.word_at-word.ensures.value;
      apart = one;
      most = refl;
      counted = c.word_at-word.ensures.counted ∙ looked_more-one w w 0 (looked_more-zero w) ∙ ap (λ n. looked_more n w) one;
      shifts = begun;
      ahead = Ahead-start c.count-count.result c.args.hashes.now words c.args.removed c.next-bucket.result size c.requires.removed e;
    }

pub returns-clause-indexed : goal.returns-clause-indexed
returns-clause-indexed g c =
    let l = c.loop-word in
    let s = l.invariant.shifts in
    let words : List ℕ = g.B.Words.words l.buckets in
    let begin : List ℕ = g.B.Words.words c.args.buckets.now in
    let long : length (set words l.gap 0) ≡ length begin = length-set words l.gap 0 ∙ s.size ∙ c.count-count.ensures in
    subst (IsIndexed c.args.hashes.now) (sym c.set_word-2.ensures.words)
    record {
      count = subst IsBucketCount (sym long) c.requires.count;
      room = subst (λ n. length c.args.hashes.now ≤ capacity_of n) (length-set begin c.args.removed 0 ∙ sym long) c.requires.removed.room;
      each = s.each;
      ordered = Shifts-end s (sym l.invariant.read ∙ omega (arith, c.loop-word-test.false));
    }

pub returns-clause-cost : goal.returns-clause-cost
returns-clause-cost g c = grind (arith, common_steps)

-- the probe distances that are compared have no sign
pub if_less-place-requires : goal.if_less-place-requires
if_less-place-requires g c =
    let half = count-le_half c.count-count.result (rw c.count-count.ensures c.requires.count) c.count-count.type_inv in
    grind (arith, common_steps, probe_distance-lt)

pub if_less-gap-requires : goal.if_less-gap-requires
if_less-gap-requires g c =
    let half = count-le_half c.count-count.result (rw c.count-count.ensures c.requires.count) c.count-count.type_inv in
    grind (arith, common_steps, probe_distance-lt)

pub if_less-distance-requires : goal.if_less-distance-requires
if_less-distance-requires g c =
    let half = count-le_half c.count-count.result (rw c.count-count.ensures c.requires.count) c.count-count.type_inv in
    grind (arith, common_steps, probe_distance-lt)

pub set_word-requires-clause-fits : goal.set_word-requires-clause-fits
set_word-requires-clause-fits g c = grind (arith, common_steps, word_within)

pub overflow_add-distance : goal.overflow_add-distance
overflow_add-distance g c = grind (arith, common_steps, probe_distance-lt)

pub loop-word-smaller : goal.loop-word-smaller
loop-word-smaller g c =
    let i = c.loop-word.invariant in
    let v = c.requires.removed.gap.another in
    fewer_ahead i.shifts (i.ahead v.0 v.1) c.next-bucket-in-loop-word.result
    (λ none. c.loop-word-test.true (i.read ∙ none)) c.next-bucket-in-loop-word.ensures.value

pub loop-word-preserved : goal.loop-word-preserved
loop-word-preserved g c =
    let l = c.loop-word in
    let i = l.invariant in
    let m : ℕ = c.count-count.result in
    let hs : List ℕ = c.args.hashes.now in
    let start = c.args.removed in
    let next = c.next-bucket-in-loop-word.result in
    let e = c.next-bucket-in-loop-word.ensures.value in
    let words : List ℕ = g.B.Words.words l.buckets in
    let some : slice_index words l.bucket ≢ 0 = λ none. c.loop-word-test.true (i.read ∙ none) in
    let word = ap (λ n. slice_index hs (n - 1)) i.read in
    let far = c.probe_distance-from_home.ensures
    ∙ ap (λ h. probe_distance m h l.bucket) (c.home.ensures.value ∙ ap (home m) word) in
    let v = c.requires.removed.gap.another in
    let a = i.ahead v.0 v.1 in
    let on = one_farther i.shifts a next some e in
    let counted = c.word_at-word-in-loop-word.ensures.counted ∙ looked_more-one c.args.tally.now l.tally _ i.counted
    ∙ ap (λ n. looked_more n c.args.tally.now) (sym on) in
    elim (cases_lt c.probe_distance-from_home.result l.distance) [
      | inr ge ↦
          let into = c.if_less-place.ensures.not_less ge in
          let left = c.if_less-gap.ensures.not_less ge in
          let wrote = c.set_word.ensures.words ∙ (λ j. set words (into j) (i.read j)) in
          let moved = Shifts-move i.shifts a next some e (omega (arith, ge, far, i.apart)) in
          record {
            read = c.word_at-word-in-loop-word.ensures.value;
            apart = rw left (omega (arith, gap_distance moved, on, c.if_less-distance.ensures.not_less ge));
            most = c.set_word.ensures.most ∙ i.most;
            counted = counted;
            shifts = rw (wrote, left) moved;
            ahead = λ v is. rw (wrote, left) (Ahead-move i.shifts (i.ahead v is) next some e);
          }
      | inl lt ↦
          let here = c.if_less-place.ensures.less lt in
          let still = c.if_less-gap.ensures.less lt in
          let same = c.set_word.ensures.words ∙ (λ j. set words (here j) (i.read j)) ∙ set-get_or words l.bucket 0 in
          let stayed = Shifts-stay i.shifts a next some e (omega (arith, lt, far, i.apart)) in
          record {
            read = c.word_at-word-in-loop-word.ensures.value;
            apart = rw still
                (omega (arith, gap_distance stayed, gap_distance i.shifts, i.apart, on, c.if_less-distance.ensures.less lt));
            most = c.set_word.ensures.most ∙ i.most;
            counted = counted;
            shifts = rw (same, still) stayed;
            ahead = λ v is. rw (same, still) (Ahead-stay i.shifts (i.ahead v is) next some e);
          }
    ]
