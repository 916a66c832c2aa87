-- The pairs so far are held: all are if the rest is, and the searches for the rest go on from here.
use Rattle.halfbrown.proofs.Common.{◌≡◌, Work, holds_equal_pair}
use Rattle.std.proofs.Common.{drop}
use Rattle.std.specs.List.{list_all}
use Rattle.halfbrown.specs.Costs.{AreSearchCosts}
use Rattle.halfbrown.specs.Equality.{keys_while_same}
use Rattle.halfbrown.proofs.map.LimitedHashMap.is_held_by.Given as goal

abbrev pub invariant-loop-index : goal.invariant-loop-index
invariant-loop-index g l = record {
  held : list_all (holds_equal_pair g.K.PartialEq.eq g.V.PartialEq.eq l.other.pairs) l.self.pairs
      ≡ list_all (holds_equal_pair g.K.PartialEq.eq g.V.PartialEq.eq l.other.pairs) (drop l.index l.self.pairs);
  cost : (after : Work)
      → AreSearchCosts g.K.PartialEq.eq g.S2.KeyHasher.hash l.other
      (keys_while_same g.K.PartialEq.eq g.V.PartialEq.eq (drop l.index l.self.pairs) l.other.pairs) l.tally after
      → AreSearchCosts g.K.PartialEq.eq g.S2.KeyHasher.hash l.other
      (keys_while_same g.K.PartialEq.eq g.V.PartialEq.eq l.self.pairs l.other.pairs) l.initial.tally after;
}
