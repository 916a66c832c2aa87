use Rattle.json_value.proofs.Common.{◌≡◌, ℕ, List, descendant, value_at}
use Rattle.json_value.proofs.Pointer.{StepsLeft}
use Rattle.json_value.proofs.value.Value.pointer.Given as goal

abbrev pub invariant-loop-step : goal.invariant-loop-step
invariant-loop-step l =
    (steps : List (List ℕ)) × StepsLeft l.step-iterator steps × (value_at l.fn.self l.fn.path ≡ descendant l.value steps)
