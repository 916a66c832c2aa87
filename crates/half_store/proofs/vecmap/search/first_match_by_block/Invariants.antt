-- No key before `start` matched, and each behind the first block was compared once.
use Rattle.half_store.proofs.Common.{◌≡◌, ◌≤◌, length, ℕ, ◌-◌, ◌<◌, false, FnReturnsAt, ReturnsAt, compared_more}
use Rattle.half_store.proofs.vecmap.search.first_match_by_block.Given as goal

abbrev pub invariant-loop-start : goal.invariant-loop-start
invariant-loop-start g l = record {
  after_first : 16 ≤ l.start;
  within : l.start ≤ length l.keys;
  none_so_far : (earlier : ℕ) → earlier < l.start → ReturnsAt (FnReturnsAt g.F.Fn l.matches) l.keys earlier false;
  work : l.tally ≡ compared_more (l.start - 16) l.initial.tally;
}

abbrev pub decreases-loop-start : goal.decreases-loop-start
decreases-loop-start g l = length l.keys - l.start
