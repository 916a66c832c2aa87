use Rattle.half_laws.proofs.lemmas.runs.Parts.{join_law}
use Rattle.half_laws.proofs.runs.parts_of_a_run.Goals as goal

pub returns-clause-join : goal.returns-clause-join
returns-clause-join g c = join_law g.L.Limit.LIMIT g.K.PartialEq.eq g.S.KeyHasher.hash
