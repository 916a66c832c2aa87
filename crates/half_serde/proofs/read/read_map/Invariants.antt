-- What was read so far has its pairs in the map.
use Rattle.half_serde.specs.Reading.{ReadsPairs}
use Rattle.half_serde.proofs.read.read_map.Given as goal

abbrev pub invariant-loop : goal.invariant-loop
invariant-loop g l = ReadsPairs g.F.Format.gives g.R.Reads-1.reads g.R.Reads-2.reads g.K.PartialEq.eq g.H.Default.is_default l.initial.from l.map l.from
