use Rattle.halfbrown.proofs.lemmas.raw_entry.Methods.{written_puts}
use Rattle.halfbrown.proofs.raw_entry.RawEntryMut.insert_counted.Goals as goal

pub returns-in-Occupied-clause-puts : goal.returns-in-Occupied-clause-puts
returns-in-Occupied-clause-puts g c =
    rw c.in-Occupied.is (written_puts _ _ c.in-Occupied.entry c.args.key c.args.value _ c.insert.ensures.written c.insert.ensures.valid)
