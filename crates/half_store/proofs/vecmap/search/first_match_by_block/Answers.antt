use Rattle.half_store.proofs.Common.{◌+◌, arith, false, FnReturnsAt, ReturnsAt}
use Rattle.half_store.proofs.lemmas.vecmap.Search.{below_and_from}
use Rattle.half_store.proofs.vecmap.search.first_match_by_block.Goals as goal
use Rattle.half_store.proofs.Common.{common_steps}

pub returns-then-found-keys-clause-first : goal.returns-then-found-keys-clause-first
returns-then-found-keys-clause-first g c =
    let told = c.first_match_between-found.ensures in
    record {
      found = (c.if-found-keys.true, told.found c.if-found-keys.true);
      none_before = λ earlier before. told.none_before earlier (omega arith) before;
      absent = tt;
    }

pub returns-else-found-keys-clause-first : goal.returns-else-found-keys-clause-first
returns-else-found-keys-clause-first g c = record {
  found = tt;
  none_before = tt;
  absent = λ index within.
      c.first_match_between-found.ensures.none_before index (omega arith) (omega (arith, within, c.if-found-keys.false));
}

pub returns-then-found-end-clause-first : goal.returns-then-found-end-clause-first
returns-then-found-end-clause-first g c =
    let told = c.first_match_between-found-in-loop-start.ensures in
    record {
      found = (omega (arith, c.min.ensures, c.if-found-end.true, c.loop-start-test.true), told.found c.if-found-end.true);
      none_before = below_and_from (λ k. ReturnsAt (FnReturnsAt g.F.Fn c.args.matches.now) c.args.keys.now k false) c.loop-start.start
          c.first_match_between-found-in-loop-start.result c.loop-start.invariant.none_so_far told.none_before;
      absent = tt;
    }

pub loop-start-preserved : goal.loop-start-preserved
loop-start-preserved g c = record {
  within = omega (arith, c.min.ensures, c.loop-start-test.true);
  none_so_far = below_and_from (λ k. ReturnsAt (FnReturnsAt g.F.Fn c.args.matches.now) c.args.keys.now k false) c.loop-start.start
      (c.loop-start.start + c.min.result) c.loop-start.invariant.none_so_far
      (λ k from within. c.first_match_between-found-in-loop-start.ensures.none_before k from (omega (arith, within, c.if-found-end.false)));
  after_first = omega (arith, c.loop-start.invariant.after_first);
  work = grind (arith, common_steps);
}

pub returns-clause-first : goal.returns-clause-first
returns-clause-first g c = record {
  found = tt;
  none_before = tt;
  absent = λ index within. c.loop-start.invariant.none_so_far index (omega (arith, within, c.loop-start-test.false));
}

pub returns-then-found-lt-BLOCK-clause-first : goal.returns-then-found-lt-BLOCK-clause-first
returns-then-found-lt-BLOCK-clause-first g c =
    let told = c.first_match_between-found-2.ensures in
    record {
      found = (omega (arith, c.if-found-lt-BLOCK.true, c.if-keys-le-BLOCK.false), told.found c.if-found-lt-BLOCK.true);
      none_before = λ earlier before. told.none_before earlier (omega arith) before;
      absent = tt;
    }

pub loop-start-init : goal.loop-start-init
loop-start-init g c =
    let told = c.first_match_between-found-2.ensures in
    record {
      after_first = omega arith;
      within = omega (arith, c.if-keys-le-BLOCK.false);
      none_so_far = λ earlier before. told.none_before earlier (omega arith) (omega (arith, before, c.if-found-lt-BLOCK.false));
      work = grind (arith, common_steps);
    }

pub returns-then-found-end-clause-work : goal.returns-then-found-end-clause-work
returns-then-found-end-clause-work g c = grind (arith, common_steps)

pub returns-clause-work : goal.returns-clause-work
returns-clause-work g c = grind (arith, common_steps)
