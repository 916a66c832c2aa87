use Rattle.halfbrown.proofs.Common.{arith, zip, common_steps}
use Rattle.halfbrown.proofs.lemmas.map.Iter.{shows_pairs_in_order, zip_columns}
use Rattle.halfbrown.proofs.map.LimitedHashMap.iter.Goals as goal

pub returns-clause-left : goal.returns-clause-left
returns-clause-left g c = grind (arith, common_steps, zip, zip_columns)

pub returns-clause-runs : goal.returns-clause-runs
returns-clause-runs g c = shows_pairs_in_order g.row.K.Denot g.row.V.Denot
