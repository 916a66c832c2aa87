use Rattle.half_mean.proofs.lemmas.Means.{cases_law}
use Rattle.half_mean.proofs.cases_of_the_means.Goals as goal

pub returns : goal.returns
returns c = cases_law
