-- The first pairs are those that were there, and all else is as it was.
use Rattle.halfbrown.proofs.Common.{◌≡◌, length, take, WithPairs}
use Rattle.halfbrown.proofs.map.LimitedHashMap.truncate.Given as goal

abbrev pub invariant-loop-self : goal.invariant-loop-self
invariant-loop-self g l = record {
  first : take l.len l.self.pairs ≡ take l.len l.initial.self.pairs;
  same : WithPairs l.initial.self l.self.pairs l.self;
}

abbrev pub decreases-loop-self : goal.decreases-loop-self
decreases-loop-self g l = length l.self.pairs
