use Rattle.half_store.proofs.lemmas.table.Mask.{mask_next}
use Rattle.half_store.proofs.table.probe.next.Goals as goal

pub returns-clause-value : goal.returns-clause-value
returns-clause-value c = mask_next c.args.count c.args.bucket c.requires.count c.requires.within
