use Rattle.halfbrown.proofs.Common.{arith, common_steps}
use Rattle.halfbrown.proofs.lemmas.map.Layout.{kept_as, state_of, IsDistinct-retained}
use Rattle.halfbrown.proofs.map.LimitedHashMap.retain.Goals as goal

pub invariant_of-self : goal.invariant_of-self
invariant_of-self g c = grind (arith, common_steps, IsDistinct-retained, kept_as)

pub returns-clause-valid : goal.returns-clause-valid
returns-clause-valid g c = state_of _ _ _ _ _ (invariant_of-self g c)
