use Rattle.json_value.proofs.Common.{◌≡◌, ◌∷◌, Some, slice_get, arith, rules, common_steps, gets, option_copied, steps_of}
use Rattle.json_value.proofs.Changing.{puts_item}
use Rattle.json_value.proofs.value.Value.+set_steps.Goals as goal

pub returns-in_ok-get_mut-in-List-clause-after : goal.returns-in_ok-get_mut-in-List-clause-after
returns-in_ok-get_mut-in-List-clause-after t c =
    let items = c.in-List.items in
    let step = c.first_step.result.0.now in
    let rest = steps_of (option_copied c.first_step.result.1) in
    let cut : steps_of (option_copied c.args.steps) ≡ step ∷ rest = search rules in
    let i = c.in_ok-place.place in
    let found : slice_get items.items i ≡ Some c.in_ok-get_mut-in-List.field-0.now = grind (arith, common_steps, gets) in
    puts_item _ c.args.self.now items c.in-List.is _ step rest cut i (search rules) _ found _ _ c.set_steps.new.self
    (rw c.in-List.items-is (search rules)) c.set_steps.ensures.after
