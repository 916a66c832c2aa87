use Rattle.halfbrown.proofs.Common.{refl}
use Rattle.halfbrown.proofs.lemmas.drain.{runs, keeps_along}
use Rattle.halfbrown.proofs.lemmas.map.Layout.{kept_empty}
use Rattle.halfbrown.proofs.map.LimitedHashMap.drain.Goals as goal

pub invariant_of-self : goal.invariant_of-self
invariant_of-self g c = kept_empty _ _ _ c.drain-pairs.new.self c.drain-pairs.ensures.after

pub returns-clause-runs : goal.returns-clause-runs
returns-clause-runs g c = record { same_map = refl; pairs = runs; keeps = keeps_along _ }
