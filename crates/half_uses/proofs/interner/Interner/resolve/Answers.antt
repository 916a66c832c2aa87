use Rattle.std.proofs.Common.{Some, slice_get, string_bytes, sym, ap, ◌∙◌}
use Rattle.half_uses.proofs.Interning.{number_of_key, text_of_key}
use Rattle.half_uses.proofs.interner.Interner.resolve.Goals as goal
use Rattle.half_uses.specs.Interner.{number_of}

pub returns-clause-text : goal.returns-clause-text
returns-clause-text c =
    ap Some c.as_str.ensures.value
    ∙ sym (text_of_key c.self.inside.texts.pairs c.args.number (c.in_ok-text.text.now, c.in_ok-text.field-0-1.now)
    (sym c.in_ok-text.ensures.pair))
    ∙ ap (λ texts. slice_get texts c.args.number) c.self.view_is

pub returns-clause-number : goal.returns-clause-number
returns-clause-number c =
    ap (number_of c.args.self.now) c.as_str.ensures.value
    ∙ ap (λ texts. number_of texts (string_bytes c.in_ok-text.text.now)) (sym c.self.view_is)
    ∙ number_of_key c.self.inside.texts.pairs c.args.number (c.in_ok-text.text.now, c.in_ok-text.field-0-1.now) c.len.ensures.valid.distinct
    (sym c.in_ok-text.ensures.pair)
