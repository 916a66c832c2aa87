use Rattle.half_uses.proofs.Interning.{absent_key, texts_with_new}
use Rattle.half_uses.proofs.interner.Interner.push.Goals as goal

pub insert_nocheck-requires : goal.insert_nocheck-requires
insert_nocheck-requires c =
    absent_key c.self.inside.texts.pairs c.args.self.now c.in_ok-stored.stored c.args.text.now c.self.view_is c.in_ok-stored.ensures.ok
    c.requires

pub returns-clause-after : goal.returns-clause-after
returns-clause-after c =
    texts_with_new c.self.inside.texts.pairs c.args.self.now c.in_ok-stored.stored c.args.text.now c.self.view_is c.in_ok-stored.ensures.ok
    c.requires
    c.insert_nocheck.new.self.pairs tt c.in_ok-insert_nocheck.ensures.puts.pairs
