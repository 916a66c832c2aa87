use Rattle.half_store.proofs.Common.{arith, FnReturnsAt}
use Rattle.std.proofs.Common.{below_more}
use Rattle.half_store.proofs.lemmas.counting.{returned_at}
use Rattle.half_store.proofs.vecmap.search.first_match.Goals as goal
use Rattle.half_store.proofs.Common.{common_steps}

pub returns-then-compare-clause-first : goal.returns-then-compare-clause-first
returns-then-compare-clause-first g c = record {
  found = (
    c.loop-index-test.true,
    returned_at (FnReturnsAt g.F.Fn c.args.matches.now) c.args.keys.now c.loop-index.index c.index-keys-index.result _ c.index-keys-index.is
        c.if-compare.ensures.answer,
  );
  none_before = c.loop-index.invariant.none_so_far;
  absent = tt;
}

pub returns-then-compare-clause-work : goal.returns-then-compare-clause-work
returns-then-compare-clause-work g c = grind (arith, common_steps)

pub loop-index-preserved : goal.loop-index-preserved
loop-index-preserved g c = record {
  none_so_far = below_more _ _ c.loop-index.invariant.none_so_far
      (returned_at (FnReturnsAt g.F.Fn c.args.matches.now) c.args.keys.now c.loop-index.index c.index-keys-index.result _
      c.index-keys-index.is c.if-compare.ensures.answer);
  work = grind (arith, common_steps);
}

pub returns-2-clause-first : goal.returns-2-clause-first
returns-2-clause-first g c = record {
  found = tt;
  none_before = tt;
  absent = λ index within. c.loop-index.invariant.none_so_far index (omega (arith, within, c.loop-index-test.false));
}

pub returns-2-clause-work : goal.returns-2-clause-work
returns-2-clause-work g c = grind (arith, common_steps)
