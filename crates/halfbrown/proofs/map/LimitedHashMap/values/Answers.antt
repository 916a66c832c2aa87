use Rattle.std.specs.Map.Iter.{deref}
use Rattle.halfbrown.proofs.lemmas.map.Iter.{shows_in_order}
use Rattle.halfbrown.proofs.map.LimitedHashMap.values.Goals as goal

pub returns-clause-runs : goal.returns-clause-runs
returns-clause-runs g c = shows_in_order deref
