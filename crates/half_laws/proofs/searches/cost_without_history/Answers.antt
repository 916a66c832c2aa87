use Rattle.half_laws.proofs.lemmas.searches.{history_law, insertion_history_law}
use Rattle.half_laws.proofs.searches.cost_without_history.Goals as goal

pub returns-clause-search : goal.returns-clause-search
returns-clause-search g c = history_law g.S.KeyHasher.hash

pub returns-clause-insertion : goal.returns-clause-insertion
returns-clause-insertion g c = insertion_history_law g.S.KeyHasher.hash g.L.Limit.LIMIT g.K.PartialEq.eq
