use Rattle.half_laws.proofs.lemmas.runs.Laws.{unswitched_law}
use Rattle.half_laws.proofs.runs.form_of_a_run.Goals as goal

pub returns-clause-unswitched : goal.returns-clause-unswitched
returns-clause-unswitched g c = unswitched_law g.L.Limit.LIMIT g.K.PartialEq.eq g.S.KeyHasher.hash
