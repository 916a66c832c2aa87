use Rattle.halfbrown.proofs.Common.{arith, common_steps}
use Rattle.halfbrown.proofs.lemmas.raw_entry.Methods.{lent_key, lent_value}
use Rattle.halfbrown.proofs.raw_entry.RawVacantEntryMut.insert_hashed_nocheck_counted.Goals as goal

pub returns-clause-key : goal.returns-clause-key
returns-clause-key g c = grind (arith, common_steps, lent_key)

pub returns-clause-value : goal.returns-clause-value
returns-clause-value g c = grind (arith, common_steps, lent_value)
