-- The pairs that the iterator gave are written.
use Rattle.serde.specs.Event.{WritesEntry}
use Rattle.serde.proofs.Events.{WritesUpTo}
use Rattle.halfbrown.specs.Iter.{pairs_left}
use Rattle.half_serde.proofs.as_map.serialize.Given as goal

abbrev pub invariant-loop-key : goal.invariant-loop-key
invariant-loop-key g l = WritesUpTo (WritesEntry g.K.Described.writes g.V.Described.writes) l.map.pairs (pairs_left l.key-iterator)
    (g.S.Serializer.written l.initial.out) (g.S.Serializer.written l.out)
