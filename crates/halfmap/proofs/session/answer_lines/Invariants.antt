use Rattle.halfmap.proofs.Common.{reader_remaining, writer_contents}
use Rattle.halfmap.proofs.Serving.{IsServed}
use Rattle.halfmap.proofs.session.answer_lines.Given as goal

abbrev pub invariant-loop : goal.invariant-loop
invariant-loop g l =
    IsServed (reader_remaining g.R.Read.remaining l.fn.reader) (reader_remaining g.R.Read.remaining l.reader) l.fn.map l.map
    (writer_contents g.W.Write.contents l.fn.writer) (writer_contents g.W.Write.contents l.writer)
