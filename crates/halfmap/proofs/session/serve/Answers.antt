use Rattle.halfmap.proofs.Buffers.{reader_starts, writer_starts}
use Rattle.halfmap.proofs.Serving.{serves_by}
use Rattle.halfmap.proofs.session.serve.Goals as goal

pub returns-in-Ok : goal.returns-in-Ok
returns-in-Ok g c =
    let reader = c.in_ok-reader.ensures in
    let writer = c.in_ok-writer.ensures in
    serves_by _ _ _ _ _ _ _ _
    (reader_starts g.R.Read.remaining c.in_ok-reader.reader c.args.reader reader.inner reader.empty reader.capacity)
    (writer_starts g.W.Write.contents c.in_ok-writer.writer c.args.writer writer.inner writer.empty)
    c.new-map.ensures.made.pairs c.new-map.ensures.made.form c.new-map.ensures.made.capacity c.in_ok-answer_lines.ensures c.in-Ok.ensures.ok
