use Rattle.halfbrown.specs.Equality.{reflexive, symmetric, transitive, same_pairs-Decides}
use Rattle.half_laws.proofs.lemmas.equality.{order_law, pairs_law}
use Rattle.half_laws.proofs.equality.equality_of_maps.Goals as goal

pub returns : goal.returns
returns g c = record {
  reflexive = reflexive g.K.PartialEq.eq g.V.PartialEq.eq g.met.K.Eq.laws;
  symmetric = symmetric g.K.PartialEq.eq g.V.PartialEq.eq g.met.K.Eq.laws g.met.V.PartialEq.laws;
  transitive = transitive g.K.PartialEq.eq g.V.PartialEq.eq g.met.K.Eq.laws g.met.V.PartialEq.laws;
  values = same_pairs-Decides g.K.PartialEq.eq g.V.PartialEq.eq g.met.K.Eq.laws;
  pairs = pairs_law g.K.PartialEq.eq g.V.PartialEq.eq g.met.K.Eq.laws;
  order = order_law g.K.PartialEq.eq g.V.PartialEq.eq g.met.K.Eq.laws;
}
