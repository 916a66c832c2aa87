use Rattle.halfbrown.proofs.Common.{refl}
use Rattle.halfbrown.proofs.lemmas.map.Remove.{value_in_order}
use Rattle.halfbrown.proofs.map.LimitedHashMap.shift_remove_counted.Goals as goal

pub returns-clause-removes : goal.returns-clause-removes
returns-clause-removes g c = value_in_order _ _ _ _ _ _ _ refl c.in_ok-value.ensures.removes
