use Rattle.halfbrown.proofs.Common.{arith, common_steps}
use Rattle.halfbrown.proofs.raw_entry.RawEntryBuilderMut.from_key_counted.Goals as goal

pub returns-clause-cost : goal.returns-clause-cost
returns-clause-cost g c = rw c.self-1.given.1 (grind (arith, common_steps))
