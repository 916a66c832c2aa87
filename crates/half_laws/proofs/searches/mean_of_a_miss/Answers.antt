use Rattle.half_laws.proofs.lemmas.means.{miss_law}
use Rattle.half_laws.proofs.searches.mean_of_a_miss.Goals as goal

pub returns-clause-reads : goal.returns-clause-reads
returns-clause-reads g c = miss_law _ g.S.KeyHasher.hash
