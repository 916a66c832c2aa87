use Rattle.half_store.proofs.Common.{◌≡◌, ◌≢◌, ◌<◌, ◌-◌, ◌∙◌, length, suc, arith, sym, ap, subst, Some, None, false, slice_index, slice_get-get_or}
use Rattle.half_store.proofs.Common.{FnReturnsAt, ReturnsAt, bucket_after, home, slots_from, slot_at, compared_more}
use Rattle.half_store.proofs.lemmas.counting.{returned_at}
use Rattle.half_store.proofs.lemmas.table.Buckets.{length-slots_from, slot_of_word, within-at, zero_of_slot}
use Rattle.half_store.proofs.lemmas.table.Find.{finds_none, finds, finds_vacancy}
use Rattle.half_store.proofs.lemmas.table.Layout.{index-vacant}
use Rattle.half_store.proofs.lemmas.table.Slots.{Probes-ahead}
use Rattle.half_store.proofs.lemmas.table.Probe.{Searches-start, Searches-skip, Searches-refused}
use Rattle.half_store.proofs.table.probe.probe_for.Given.{Over}
use Rattle.half_store.proofs.table.probe.probe_for.Goals.{else-hashes-index-via-then-hashes-index+else-compare, else-hashes-index-via-else-hashes-index}
use Rattle.half_store.proofs.table.probe.probe_for.Goals as goal

pub returns-then-count-eq0 : goal.returns-then-count-eq0
returns-then-count-eq0 g c =
    finds_none c.requires.indexed c.args.hash (ReturnsAt (FnReturnsAt g.F.Fn c.args.matches.now) c.args.keys.now) c.args.tally.now
    (sym c.count-count.ensures ∙ c.if-count-eq0.true)

pub loop-full-init : goal.loop-full-init
loop-full-init g c =
    let same = c.count-count.ensures ∙ sym (length-slots_from c.args.hashes.now (g.B.Words.words c.args.buckets.now)) in
    Searches-start (slots_from c.args.hashes.now (g.B.Words.words c.args.buckets.now)) c.args.hash
    (λ bucket. ReturnsAt (FnReturnsAt g.F.Fn c.args.matches.now) c.args.keys.now
    (slice_index (g.B.Words.words c.args.buckets.now) bucket - 1) false)
    c.home-bucket.result c.args.tally.now (omega (arith, same, c.home-bucket.ensures.bound))
    (c.home-bucket.ensures.value ∙ ap (λ m. home m c.args.hash) same)

pub returns-in-0 : goal.returns-in-0
returns-in-0 g c =
    finds_vacancy c.requires.indexed c.args.hash (ReturnsAt (FnReturnsAt g.F.Fn c.args.matches.now) c.args.keys.now) c.word_at.new.tally
    c.loop-full.invariant (sym c.word_at.ensures.value ∙ c.in-0.is) c.word_at.ensures.counted

pub compare-requires : goal.compare-requires
compare-requires g c =
    let words = g.B.Words.words c.args.buckets.now in
    let most = within-at (length c.args.hashes.now) words c.loop-full.bucket c.requires.indexed.each.within in
    let within : c.word_at.result - 1 < length c.args.hashes.now = omega (arith, most, c.word_at.ensures.value) in
    c.requires.callable _ (c.word_at.result - 1) (slice_get-get_or c.args.hashes.now _ 0 within ∙ ap Some c.if-hashes-index.true)
    (slice_get-get_or c.args.keys.now _ c.index-keys-index.result (omega (arith, within, c.requires.keys))
    ∙ ap Some (sym c.index-keys-index.is))

pub returns-then-compare : goal.returns-then-compare
returns-then-compare g c =
    let words = g.B.Words.words c.args.buckets.now in
    let most = within-at (length c.args.hashes.now) words c.loop-full.bucket c.requires.indexed.each.within in
    let word : c.word_at.result ≡ suc (c.word_at.result - 1) = omega arith in
    finds c.requires.indexed c.args.hash (ReturnsAt (FnReturnsAt g.F.Fn c.args.matches.now) c.args.keys.now) c.compare.new.tally
    c.loop-full.invariant (c.word_at.result - 1) (sym c.word_at.ensures.value ∙ word) (omega (arith, most, c.word_at.ensures.value))
    c.if-hashes-index.true
    (returned_at (FnReturnsAt g.F.Fn c.args.matches.now) c.args.keys.now (c.word_at.result - 1) c.index-keys-index.result _
    c.index-keys-index.is c.if-compare.ensures.answer)
    (c.compare.ensures.counted ∙ ap (compared_more 1) c.word_at.ensures.counted)

-- a step of the loop goes on from a full bucket to the next
module _ (g : Over) (c : goal.After-next-bucket g) where
  word : slice_index (g.B.Words.words c.args.buckets.now) c.loop-full.bucket ≡ suc (c.word_at.result - 1)
  word = sym c.word_at.ensures.value ∙ omega arith

  within : c.word_at.result - 1 < length c.args.hashes.now
  within = omega (
    arith,
    word,
    within-at (length c.args.hashes.now) (g.B.Words.words c.args.buckets.now) c.loop-full.bucket c.requires.indexed.each.within,
  )

  full : slot_at (slots_from c.args.hashes.now (g.B.Words.words c.args.buckets.now)) c.loop-full.bucket ≢ None
  full none = absurd (omega (arith, word, zero_of_slot _ _ _ c.requires.indexed.each.within none))

  next : c.next-bucket.result ≡ bucket_after (length (slots_from c.args.hashes.now (g.B.Words.words c.args.buckets.now)))
      c.loop-full.bucket 1
  next = c.next-bucket.ensures.value
      ∙ ap (λ m. bucket_after m c.loop-full.bucket 1) (c.count-count.ensures ∙ sym (length-slots_from c.args.hashes.now _))

pub loop-full-smaller : goal.loop-full-smaller
loop-full-smaller g c =
    let vacant = index-vacant c.requires.indexed (omega (arith, c.count-count.ensures, c.if-count-eq0.false)) in
    Probes-ahead c.loop-full.invariant.probe vacant c.next-bucket.result (full g c) (next g c)

pub loop-full-preserved : goal.loop-full-preserved
loop-full-preserved g c =
    let vacant = index-vacant c.requires.indexed (omega (arith, c.count-count.ensures, c.if-count-eq0.false)) in
    let stored = slot_of_word c.args.hashes.now (g.B.Words.words c.args.buckets.now) c.loop-full.bucket (c.word_at.result - 1)
    (within g c) (word g c) in
    elim c.else-hashes-index.branch [
      | else-hashes-index-via-then-hashes-index+else-compare w ↦
          Searches-refused c.loop-full.invariant vacant c.next-bucket.result c.else-hashes-index.tally (next g c)
          (stored ∙ ap Some w.if-hashes-index.true)
          (subst (λ n. ReturnsAt (FnReturnsAt g.F.Fn c.args.matches.now) c.args.keys.now (n - 1) false) c.word_at.ensures.value
          (returned_at (FnReturnsAt g.F.Fn c.args.matches.now) c.args.keys.now (c.word_at.result - 1) w.index-keys-index.result _
          w.index-keys-index.is w.if-compare.ensures.answer))
          (w.tally-is ∙ w.compare.ensures.counted ∙ ap (compared_more 1) c.word_at.ensures.counted)
      | else-hashes-index-via-else-hashes-index w ↦
          Searches-skip c.loop-full.invariant vacant c.next-bucket.result c.else-hashes-index.tally (next g c) _ stored
          w.if-hashes-index.false (w.tally-is ∙ c.word_at.ensures.counted)
    ]
