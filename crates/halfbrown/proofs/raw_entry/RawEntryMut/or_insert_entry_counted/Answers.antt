use Rattle.halfbrown.proofs.lemmas.raw_entry.Methods.{held_puts}
use Rattle.halfbrown.proofs.raw_entry.RawEntryMut.or_insert_entry_counted.Goals as goal

pub returns-in-Occupied-clause-puts : goal.returns-in-Occupied-clause-puts
returns-in-Occupied-clause-puts g c = rw c.in-Occupied.is (held_puts _ _ c.in-Occupied.entry c.args.default_key c.args.default_value c.len.ensures.valid)
