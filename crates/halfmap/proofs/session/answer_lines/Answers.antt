use Rattle.halfmap.proofs.Common.{List, ℕ, subst, ◌∙◌, AnswersLine}
use Rattle.halfmap.proofs.Serving.{serves_nothing, serves_line, serves_all, some_line, no_line}
use Rattle.halfmap.proofs.LongLines.{answers_line}
use Rattle.halfmap.proofs.session.answer_lines.Goals as goal

pub loop-init : goal.loop-init
loop-init g c = serves_nothing _ _ _

pub returns-then-not-branch : goal.returns-then-not-branch
returns-then-not-branch g c =
    let read = c.in_ok-read_line.ensures in
    let none = no_line _ _ read.line.0 read.line.1 read.more c.if-not-branch.true in
    serves_all _ _ _ _ _ _ _ _ read.line.0 c.loop.invariant c.write_before_waiting.ensures.kept none read.line.2

pub loop-preserved : goal.loop-preserved
loop-preserved g c =
    let read = c.in_ok-read_line.ensures in
    let some = some_line _ _ read.line.0 read.line.1 read.more c.if-not-branch.false in
    let answer = c.in_ok-answer_line.ensures in
    let answers = subst (λ (line : List ℕ). AnswersLine line c.loop.map answer.0 c.answer_line.new.map)
    (c.as_slice.ensures.value ∙ read.line.1) answer.1 in
    serves_line _ _ _ _ _ _ _ _ _ _ read.line.0 answer.0 c.loop.invariant c.write_before_waiting.ensures.kept some read.line.2
    (answers_line _ _ _ _ answers) answer.2
