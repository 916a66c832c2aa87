use Rattle.half_store.proofs.Common.{◌≡◌, ◌*◌, inr, refl, ◌∙◌, arith, common_steps}
use Rattle.half_store.specs.Capacity.{next_bucket_count, least_buckets}
use Rattle.half_store.proofs.lemmas.capacity.{buckets_for-is, four-le_count, next_bucket_count-count, next_bucket_count-some, next_bucket_count-least}
use Rattle.half_store.proofs.capacity.least_buckets.Goals as goal

pub returns-then-needed-eq0-clause-value : goal.returns-then-needed-eq0-clause-value
unfolding least_buckets
returns-then-needed-eq0-clause-value c = rw c.if-needed-eq0.true refl

pub loop-buckets-init : goal.loop-buckets-init
loop-buckets-init c = record {
  count = inr (2, omega arith, refl);
  some = omega arith;
  small = omega arith;
  least = λ o is s. four-le_count o is (omega arith);
}

pub loop-buckets-preserved : goal.loop-buckets-preserved
loop-buckets-preserved c =
    let i = c.loop-buckets.invariant in
    let b = c.loop-buckets.buckets in
    let d : next_bucket_count b ≡ b * 2 = next_bucket_count-some b (omega arith) ∙ omega arith in
    record {
      count = rw (← d) (next_bucket_count-count b i.count);
      some = omega arith;
      small = omega arith;
      least = λ o is s. let m = next_bucket_count-least b o i.count is (omega arith) in omega arith;
    }

pub returns-clause-value : goal.returns-clause-value
returns-clause-value c = grind (arith, common_steps, buckets_for-is)
