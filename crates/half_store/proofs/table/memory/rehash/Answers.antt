use Rattle.half_store.proofs.Common.{◌≡◌, length, take, ◌+◌, ◌∙◌, arith, ◌<◌, suc, ap, slice_index, set, common_steps, length-set, capacity_of}
use Rattle.std.proofs.lemmas.List.{length-take, take_more}
use Rattle.half_store.proofs.lemmas.table.Layout.{IsIndexed-empty, IsIndexed-add, IsIndexed-as}
use Rattle.half_store.proofs.table.memory.rehash.Goals as goal

pub loop-index-init : goal.loop-index-init
loop-index-init g c = grind (arith, common_steps, IsIndexed-empty)

pub loop-index-preserved : goal.loop-index-preserved
loop-index-preserved g c =
    let l = c.loop-index in
    let i = l.index in
    let hs = c.args.hashes.now in
    let words = g.B.Words.words l.buckets in
    let p = c.first_empty-bucket.result in
    let same = ap capacity_of l.invariant.len in
    let taken = length-take i hs in
    let few : length (take i hs) < capacity_of (length words) = omega (arith, same, taken, c.requires.capacity, c.loop-index-test.true) in
    let index : i + 1 ≡ suc (length (take i hs)) = omega (arith, taken, c.loop-index-test.true) in
    let written = c.set_word.ensures.words in
    record {
      indexed =
          IsIndexed-as (take_more hs i 0 c.loop-index-test.true) (written ∙ ap (set words p) index)
          (IsIndexed-add l.invariant.indexed p (slice_index hs i) c.first_empty-bucket.ensures.vacancy few);
      len = ap length written ∙ length-set words p (i + 1) ∙ l.invariant.len;
      most = c.set_word.ensures.most ∙ l.invariant.most;
    }
