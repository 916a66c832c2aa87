use Rattle.json_value.proofs.Common.{length, option_copied, steps_of}
use Rattle.json_value.proofs.value.Value.+set_steps.Given as goal

abbrev pub decreases-set_steps : goal.decreases-set_steps
decreases-set_steps l = length (steps_of (option_copied l.steps))
