-- No key so far matched, and each was compared once.
use Rattle.half_store.proofs.Common.{◌≡◌, ℕ, ◌<◌, false, FnReturnsAt, ReturnsAt, compared_more}
use Rattle.half_store.proofs.vecmap.search.first_match.Given as goal

abbrev pub invariant-loop-index : goal.invariant-loop-index
invariant-loop-index g l = record {
  none_so_far : (earlier : ℕ) → earlier < l.index → ReturnsAt (FnReturnsAt g.F.Fn l.matches) l.keys earlier false;
  work : l.tally ≡ compared_more l.index l.initial.tally;
}
