use Rattle.halfbrown.proofs.Common.{arith, common_steps}
use Rattle.halfbrown.proofs.lemmas.raw_entry.Methods.{finds_match, is_some_within}
use Rattle.halfbrown.proofs.raw_entry.RawEntryBuilderMut.from_hash_counted.Goals as goal

pub returns-in-Ok-clause-searches : goal.returns-in-Ok-clause-searches
returns-in-Ok-clause-searches g c = rw c.self-1.given.1 (finds_match _ _ g.met.K.Eq.laws _ c.in-Ok.ensures.valid _ _ _ _ c.in-Ok.ensures.found.0)

pub returns-in-Ok-clause-cost : goal.returns-in-Ok-clause-cost
returns-in-Ok-clause-cost g c = grind (arith, common_steps, is_some_within)
