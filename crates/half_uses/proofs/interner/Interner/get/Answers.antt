use Rattle.std.proofs.Common.{ap, ◌∙◌}
use Rattle.half_uses.proofs.Interning.{index_of_text, text_where_found}
use Rattle.half_uses.proofs.interner.Interner.get.Goals as goal
use Rattle.half_uses.specs.Interner.{number_of}

pub returns-clause-number : goal.returns-clause-number
returns-clause-number c =
    c.get_index_of.ensures.index ∙ index_of_text c.self.inside.texts.pairs c.args.text.now
    ∙ ap (λ texts. number_of texts c.args.text.now) c.self.view_is

pub returns-clause-resolves : goal.returns-clause-resolves
returns-clause-resolves c = text_where_found c.args.self.now c.args.text.now c.get_index_of.result
    (c.get_index_of.ensures.index ∙ index_of_text c.self.inside.texts.pairs c.args.text.now
    ∙ ap (λ texts. number_of texts c.args.text.now) c.self.view_is)
