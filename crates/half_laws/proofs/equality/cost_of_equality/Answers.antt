use Rattle.half_laws.proofs.lemmas.equality.{comparison_law}
use Rattle.half_laws.proofs.equality.cost_of_equality.Goals as goal

pub returns : goal.returns
returns g c = comparison_law g.K.PartialEq.eq g.V.PartialEq.eq g.met.K.Eq.laws
    g.S.KeyHasher.hash
