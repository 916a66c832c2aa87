use Rattle.json_value.proofs.Common.{arith, split_parts}
use Rattle.json_value.proofs.Pointer.{steps-more, steps-last}
use Rattle.json_value.proofs.value.change.first_step.Goals as goal

pub returns-in-Some : goal.returns-in-Some
returns-in-Some c =
    let cut = rw c.in-Some.is at (split_parts 47 c.args.steps.now c.split_once.result c.split_once.ensures.cases (omega arith)) in
    steps-more c.args.steps.now c.in-Some.step.now c.in-Some.rest.now cut.0 cut.1

pub returns-in-None : goal.returns-in-None
returns-in-None c =
    steps-last c.args.steps.now (rw c.in-None.is at (split_parts 47 c.args.steps.now c.split_once.result c.split_once.ensures.cases (omega arith)))
