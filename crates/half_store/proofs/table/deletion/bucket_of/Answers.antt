use Rattle.half_store.proofs.Common.{◌≡◌, length, ◌+◌, ◌∙◌, arith, ℕ, ◌<◌, suc, ap, slice_index, common_steps, probe_distance, home}
use Rattle.half_store.proofs.lemmas.table.Buckets.{word-lt, some_bucket}
use Rattle.half_store.proofs.lemmas.table.Circle.{distance_same, next_farther}
use Rattle.half_store.proofs.lemmas.table.Layout.{deletion_steps}
use Rattle.half_store.proofs.lemmas.tally.{looked_more-one}
use Rattle.half_store.proofs.table.deletion.bucket_of.Given.{Over}
use Rattle.half_store.proofs.table.deletion.bucket_of.Goals as goal

-- the probe begins at the home of the hash
begins : (hash : ℕ) {count m bucket : ℕ} → count ≡ m → bucket ≡ home count hash → bucket ≡ home m hash
begins hash e value = value ∙ ap (λ n. home n hash) e

-- what a step of the loop is given
module _ (g : Over) (c : goal.After-next-bucket g) (target : ℕ)
    (is : slice_index (g.B.Words.words c.args.buckets.now) target ≡ suc c.args.index) where
  abbrev m : ℕ
  m = length (g.B.Words.words c.args.buckets.now)

  abbrev start : ℕ
  start = home m (slice_index c.args.hashes.now c.args.index)

  in_start : start < m
  in_start = omega (arith, begins _ c.count-count.ensures c.home-bucket.ensures.value, c.home-bucket.ensures.bound, c.count-count.ensures)

  in_target : target < m
  in_target = word-lt (g.B.Words.words c.args.buckets.now) target (omega arith)

  farther : probe_distance m start c.loop-bucket.bucket < probe_distance m start target
  farther = grind (arith, common_steps, distance_same, in_start, in_target, slice_index)

  one_on : probe_distance m start c.next-bucket.result ≡ probe_distance m start c.loop-bucket.bucket + 1
  one_on = grind (arith, common_steps, farther, in_start, in_target, next_farther)

pub loop-bucket-init : goal.loop-bucket-init
loop-bucket-init g c = grind (arith, deletion_steps)

pub loop-bucket-preserved : goal.loop-bucket-preserved
loop-bucket-preserved g c =
    let b = some_bucket c.requires.indexed.each c.args.index c.requires.within in
    grind (arith, deletion_steps, farther g c, one_on g c, looked_more-one, b.2)

pub loop-bucket-smaller : goal.loop-bucket-smaller
loop-bucket-smaller g c =
    let b = some_bucket c.requires.indexed.each c.args.index c.requires.within in
    grind (arith, deletion_steps, one_on g c b.0 b.2, farther g c b.0 b.2, in_start g c b.0 b.2)

pub returns-clause-near : goal.returns-clause-near
returns-clause-near g c = grind (arith, deletion_steps)
