use Rattle.halfbrown.proofs.callers.Texts.{has_put_text}
use Rattle.half_callers.proofs.texts.store_named.Goals as goal

pub returns : goal.returns
returns c = has_put_text c.in_ok-insert.ensures.puts
