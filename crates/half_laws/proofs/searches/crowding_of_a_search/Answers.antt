use Rattle.half_laws.proofs.lemmas.searches.{crowded_unchecked_law}
use Rattle.half_laws.proofs.searches.crowding_of_a_search.Goals as goal

pub returns-clause-unchecked : goal.returns-clause-unchecked
returns-clause-unchecked g c = crowded_unchecked_law g.S.KeyHasher.hash g.L.Limit.LIMIT g.K.PartialEq.eq
