use Rattle.json_value.proofs.Common.{true≢false, sym, ◌∙◌, arith, length, length-drop, eqb-true, eq-eqb, ap, Some, refl}
use Rattle.json_value.proofs.Common.{drop_all, nil_from_length}
use Rattle.json_value.proofs.Pointer.{name_of-empty}
use Rattle.json_value.proofs.value.pointer.stands_for.Goals as goal

pub returns-in_default : goal.returns-in_default
returns-in_default c =
    let l = c.loop-byte in (
      λ never. absurd (true≢false (sym never)),
      λ same.
          let none = rw (l.invariant.0 same) at c.in_default.ensures.none in
          absurd (omega (arith, ap length none, length-drop l.byte-index c.args.name.now, c.loop-byte-test.true)),
    )

pub returns : goal.returns
returns c =
    let l = c.loop-byte in
    let end = drop_all l.byte-index c.args.name.now c.loop-byte-test.false in (
      λ empty. l.invariant.1 (rw (end, nil_from_length l.rest.now (eqb-true _ 0 (sym c.is_empty.ensures ∙ empty))) refl),
      λ same. c.is_empty.ensures ∙ eq-eqb _ 0 (ap length (name_of-empty l.rest.now (l.invariant.0 same ∙ ap Some end))),
    )
