use Rattle.halfmap.proofs.Common.{◌≡◌, Ok, false, ap, ◌∙◌}
use Rattle.halfmap.proofs.Reading.{on_err, part_taken, stays_open, line_read}
use Rattle.halfmap.proofs.lines.read_line.Goals as goal

pub returns-in_err-read_part-clause-err : goal.returns-in_err-read_part-clause-err
returns-in_err-read_part-clause-err g c =
    let step = c.read_part.ensures in
    on_err _ (part_taken _ _ _ _ _ step.0 _ c.loop.invariant step.1 step.2)

pub returns-then-branch-clause-line : goal.returns-then-branch-clause-line
returns-then-branch-clause-line g c =
    let step = c.read_part.ensures in
    line_read _ _ _ _ _ step.0 _ (c.in_ok-read_part.was ∙ ap Ok c.if-branch.true) c.loop.invariant step.1 step.2

pub loop-preserved : goal.loop-preserved
loop-preserved g c =
    let step = c.read_part.ensures in
    let was : c.read_part.result ≡ Ok false = c.in_ok-read_part.was ∙ ap Ok c.if-branch.false in
    stays_open _ _ _ _ _ step.0 _ (λ e. cc) c.loop.invariant step.1 step.2
