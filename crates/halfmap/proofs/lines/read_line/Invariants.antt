use Rattle.halfmap.proofs.Common.{reader_remaining}
use Rattle.halfmap.proofs.Reading.{IsOpenLine}
use Rattle.halfmap.proofs.lines.read_line.Given as goal

abbrev pub invariant-loop : goal.invariant-loop
invariant-loop g l =
    IsOpenLine (reader_remaining g.R.Read.remaining l.fn.reader) (reader_remaining g.R.Read.remaining l.reader) l.line.items
