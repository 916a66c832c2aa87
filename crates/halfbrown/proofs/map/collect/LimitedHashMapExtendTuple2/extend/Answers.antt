use Rattle.halfbrown.proofs.Common.{arith, common_steps}
use Rattle.halfbrown.proofs.lemmas.map.Collect.{extends_of, yields_front}
use Rattle.halfbrown.proofs.map.collect.LimitedHashMapExtendTuple2.extend.Goals as goal

pub returns-in-Err : goal.returns-in-Err
returns-in-Err g c = grind (arith, common_steps, extends_of, yields_front, g.met.K.Eq.laws)
