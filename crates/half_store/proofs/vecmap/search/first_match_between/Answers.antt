use Rattle.half_store.proofs.Common.{arith, ◌-◌, false, FnReturnsAt, ReturnsAt}
use Rattle.half_store.proofs.lemmas.counting.{returned_at}
use Rattle.half_store.proofs.lemmas.vecmap.Search.{from_before}
use Rattle.half_store.proofs.vecmap.search.first_match_between.Goals as goal
use Rattle.half_store.proofs.Common.{common_steps}

pub loop-index-preserved-then-compare : goal.loop-index-preserved-then-compare
loop-index-preserved-then-compare g c = record {
  order = omega (arith, c.loop-index-test.true);
  from = omega arith;
  within = omega (arith, c.loop-index.auto.index);
  at = λ _. returned_at (FnReturnsAt g.F.Fn c.args.matches.now) c.args.keys.now (c.loop-index.index - 1) c.index-keys-index.result _
      c.index-keys-index.is c.if-compare.ensures.answer;
  none_before = λ earlier from before. absurd (omega (arith, from, before));
  work = grind (arith, common_steps);
}

pub loop-index-preserved : goal.loop-index-preserved
loop-index-preserved g c = record {
  order = omega (arith, c.loop-index-test.true);
  from = omega (arith, c.loop-index.invariant.from);
  within = c.loop-index.invariant.within;
  at = c.loop-index.invariant.at;
  none_before = from_before (λ k. ReturnsAt (FnReturnsAt g.F.Fn c.args.matches.now) c.args.keys.now k false) c.loop-index.index
      c.loop-index.found (omega (arith, c.loop-index-test.true)) c.loop-index.invariant.none_before
      (returned_at (FnReturnsAt g.F.Fn c.args.matches.now) c.args.keys.now (c.loop-index.index - 1) c.index-keys-index.result _
      c.index-keys-index.is c.if-compare.ensures.answer);
  work = grind (arith, common_steps);
}

pub returns-clause-none_before : goal.returns-clause-none_before
returns-clause-none_before g c = λ earlier from before.
    c.loop-index.invariant.none_before earlier (omega (arith, from, c.loop-index-test.false)) before
