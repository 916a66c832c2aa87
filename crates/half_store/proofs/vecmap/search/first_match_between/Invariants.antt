-- From `index` on no key before `found` matched, and each was compared once.
use Rattle.half_store.proofs.Common.{◌≡◌, ◌≤◌, ℕ, ◌-◌, ◌<◌, true, false, FnReturnsAt, ReturnsAt, compared_more}
use Rattle.half_store.proofs.vecmap.search.first_match_between.Given as goal

abbrev pub invariant-loop-index : goal.invariant-loop-index
invariant-loop-index g l = record {
  order : l.start ≤ l.index;
  from : l.index ≤ l.found;
  within : l.found ≤ l.end;
  at : l.found < l.end → ReturnsAt (FnReturnsAt g.F.Fn l.matches) l.keys l.found true;
  none_before : (earlier : ℕ) → l.index ≤ earlier → earlier < l.found → ReturnsAt (FnReturnsAt g.F.Fn l.matches) l.keys earlier false;
  work : l.tally ≡ compared_more (l.end - l.index) l.initial.tally;
}
