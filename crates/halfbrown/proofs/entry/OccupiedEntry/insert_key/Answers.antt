use Rattle.halfbrown.proofs.Common.{refl}
use Rattle.halfbrown.proofs.lemmas.entry.Methods.{rekeyed_entry}
use Rattle.halfbrown.proofs.entry.OccupiedEntry.insert_key.Goals as goal

pub returns-clause-new : goal.returns-clause-new
returns-clause-new g c = rekeyed_entry c.args.self.now c.args.key _ refl c.set_key_at.ensures.after
