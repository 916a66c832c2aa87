use Rattle.half_laws.proofs.lemmas.tails.{most_reads_law, half_full_searches, capacity_searches}
use Rattle.half_laws.proofs.searches.longest_search.Goals as goal

pub returns : goal.returns
returns g c = record { reads = most_reads_law _ g.S.KeyHasher.hash; half_full = half_full_searches; within_capacity = capacity_searches }
