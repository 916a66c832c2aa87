use Rattle.halfbrown.proofs.Common.{refl}
use Rattle.halfbrown.proofs.lemmas.raw_entry.Methods.{adds_pair}
use Rattle.halfbrown.proofs.raw_entry.RawVacantEntryMut.insert_entry_hashed_nocheck_counted.Goals as goal

pub returns-clause-adds : goal.returns-clause-adds
returns-clause-adds g c =
    adds_pair _ _ c.args.self.map _ c.args.key c.args.value _ refl c.push-index.ensures.index c.push-index.ensures.after c.push-index.ensures.valid
    g.met.K.Eq.laws c.requires.absent
