use Rattle.half_store.proofs.Common.{◌≡◌, ◌≢◌, None, ◌∙◌, arith, length, sym, ap, common_steps, bucket_after, looked_more, slots_from, slot_at, IsSlotVacancy}
use Rattle.half_store.proofs.lemmas.table.Buckets.{length-slots_from, slot_of_zero, zero_of_slot}
use Rattle.half_store.proofs.lemmas.table.Layout.{index-vacant, vacancy_reads}
use Rattle.half_store.proofs.lemmas.table.Slots.{home_distance, Probes-distance, Probes-next, Probes-ahead, Probes-vacancy}
use Rattle.half_store.proofs.lemmas.tally.{looked_more-zero, looked_more-one}
use Rattle.half_store.proofs.table.probe.first_empty.Given.{Over}
use Rattle.half_store.proofs.table.probe.first_empty.Goals as goal

pub loop-bucket-init : goal.loop-bucket-init
loop-bucket-init g c = grind (arith, common_steps, home_distance, length-slots_from, looked_more-zero)

-- a step of the loop goes on from a full bucket to the next
module _ (g : Over) (c : goal.After-next-bucket g) where
  full : slot_at (slots_from c.args.hashes.now (g.B.Words.words c.args.buckets.now)) c.loop-bucket.bucket ≢ None
  full none = c.loop-bucket-test.true (c.word_at.ensures.value ∙ zero_of_slot _ _ _ c.requires.indexed.each.within none)

  next : c.next-bucket.result ≡ bucket_after (length (slots_from c.args.hashes.now (g.B.Words.words c.args.buckets.now)))
      c.loop-bucket.bucket 1
  next = c.next-bucket.ensures.value
      ∙ ap (λ m. bucket_after m c.loop-bucket.bucket 1) (c.count-count.ensures ∙ sym (length-slots_from c.args.hashes.now _))

pub loop-bucket-preserved : goal.loop-bucket-preserved
loop-bucket-preserved g c =
    let probe = c.loop-bucket.invariant.probe in
    let vacant = index-vacant c.requires.indexed c.requires.some in
    record {
      probe = Probes-next probe vacant c.next-bucket.result (full g c) (next g c);
      counted = c.word_at.ensures.counted ∙ looked_more-one c.args.tally.now c.loop-bucket.tally _ c.loop-bucket.invariant.counted
          ∙ ap (λ n. looked_more n c.args.tally.now) (sym (Probes-distance probe vacant c.next-bucket.result (full g c) (next g c)));
    }

pub loop-bucket-smaller : goal.loop-bucket-smaller
loop-bucket-smaller g c =
    Probes-ahead c.loop-bucket.invariant.probe (index-vacant c.requires.indexed c.requires.some) c.next-bucket.result (full g c) (next g c)

-- if it ends
vacancy : (g : Over) (c : goal.After-loop-bucket g)
    → IsSlotVacancy (slots_from c.args.hashes.now (g.B.Words.words c.args.buckets.now)) c.args.hash c.loop-bucket.bucket
vacancy g c = Probes-vacancy c.loop-bucket.invariant.probe (slot_of_zero c.args.hashes.now (g.B.Words.words c.args.buckets.now)
    c.loop-bucket.bucket (sym c.word_at.ensures.value ∙ c.loop-bucket-test.false))

pub returns-clause-vacancy : goal.returns-clause-vacancy
returns-clause-vacancy = vacancy

pub returns-clause-cost : goal.returns-clause-cost
returns-clause-cost g c =
    c.word_at.ensures.counted ∙ looked_more-one c.args.tally.now c.loop-bucket.tally _ c.loop-bucket.invariant.counted
    ∙ ap (λ n. looked_more n c.args.tally.now) (sym (vacancy_reads c.requires.indexed c.args.hash c.loop-bucket.bucket (vacancy g c)))
