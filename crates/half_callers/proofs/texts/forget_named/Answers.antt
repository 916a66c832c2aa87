use Rattle.halfbrown.proofs.callers.Texts.{has_removed_text}
use Rattle.half_callers.proofs.texts.forget_named.Goals as goal

pub returns : goal.returns
returns c = has_removed_text c.args.name.now c.len-before.ensures.valid.distinct c.remove.ensures
