use Rattle.halfmap.proofs.Common.{sym, arith, common_steps}
use Rattle.halfmap.proofs.Words.{none_then, no_first_space, no_first_number, no_second_number}
use Rattle.halfmap.proofs.request.two_numbers.Goals as goal

pub returns-in_err-end-clause-none : goal.returns-in_err-end-clause-none
returns-in_err-end-clause-none c = none_then _ (no_first_space c.args.text.now (sym c.in_err-end.ensures.value))

pub returns-in_err-first-clause-none : goal.returns-in_err-first-clause-none
returns-in_err-first-clause-none c =
    none_then _ (no_first_number c.args.text.now c.in_ok-end.end (sym c.in_ok-end.ensures.value) c.in_err-first.ensures.none)

pub returns-in_err-second-clause-none : goal.returns-in_err-second-clause-none
returns-in_err-second-clause-none c =
    none_then _ (no_second_number c.args.text.now _ c.in_ok-end.end (sym c.in_ok-end.ensures.value) (grind (arith, common_steps))
    c.in_err-second.ensures.none)
