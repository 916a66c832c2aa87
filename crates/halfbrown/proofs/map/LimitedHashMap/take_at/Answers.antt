use Rattle.halfbrown.proofs.Common.{◌<◌, length, arith, ap, common_steps}
use Rattle.halfbrown.proofs.lemmas.map.Layout.{kept_taken, state_of}
use Rattle.halfbrown.proofs.lemmas.pairs.Changes.{value_of-pair}
use Rattle.halfbrown.proofs.map.LimitedHashMap.take_at.Goals as goal

pub invariant_of-self : goal.invariant_of-self
invariant_of-self g c =
    let told = c.take_at.ensures in
    let within : c.args.found.index < length c.self.inside.store.pairs = omega (arith, c.requires.within, ap length (ap (λ m. m.pairs) c.self.view_is)) in
    kept_taken _ _ _ g.met.K.Eq.laws _ _ _ c.self.invariant told.form within told.pairs told.hashes

pub returns-clause-value : goal.returns-clause-value
returns-clause-value g c = grind (arith, common_steps, value_of-pair)

pub returns-clause-valid : goal.returns-clause-valid
returns-clause-valid g c = state_of _ _ _ _ _ (invariant_of-self g c)
