-- The items so far are inserted, and the iterator goes on and ends.
use Rattle.halfbrown.proofs.lemmas.map.Collect.{InsertsSoFar}
use Rattle.halfbrown.proofs.map.LimitedHashMap.extend_counted.Given as goal

abbrev pub invariant-loop-key : goal.invariant-loop-key
invariant-loop-key g l = record {
  can : (goal.iterator-loop-key g).can_next l.key-iterator;
  ends : (goal.iterator-loop-key g).is_finite l.key-iterator;
  so_far : InsertsSoFar g.L.Limit.LIMIT g.K.PartialEq.eq g.S.KeyHasher.hash l.fn.self
      l.yielded l.self l.fn.tally l.tally;
}
