use Rattle.std.proofs.Common.{[], ◌∷◌, ◌++◌, Some, slice_get, sym, ap, ◌∙◌}
use Rattle.half_uses.proofs.Interning.{number_of_new, number_kept, text_of_number, with_new}
use Rattle.half_uses.proofs.interner.Interner.intern.Goals as goal
use Rattle.half_uses.specs.Interner.{number_of}

pub returns-clause-number : goal.returns-clause-number
returns-clause-number c =
    ap (λ texts. number_of texts c.args.text.now) c.in_ok-push.ensures.after
    ∙ number_of_new c.args.self.now c.args.text.now (sym c.in_default.ensures.number)
    ∙ ap Some (sym c.len-number.ensures)

pub returns-clause-resolves : goal.returns-clause-resolves
returns-clause-resolves c =
    ap (λ texts. slice_get texts c.len-number.result) c.in_ok-push.ensures.after
    ∙ text_of_number (c.args.self.now ++ c.args.text.now ∷ []) c.args.text.now c.len-number.result
    (number_of_new c.args.self.now c.args.text.now (sym c.in_default.ensures.number) ∙ ap Some (sym c.len-number.ensures))

pub returns-clause-after : goal.returns-clause-after
returns-clause-after c = c.in_ok-push.ensures.after ∙ with_new c.args.self.now c.args.text.now (sym c.in_default.ensures.number)

pub returns-clause-kept : goal.returns-clause-kept
returns-clause-kept c other number is =
    ap (λ texts. number_of texts other) c.in_ok-push.ensures.after ∙ number_kept c.args.self.now c.args.text.now other number is
