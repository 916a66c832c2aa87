use Rattle.halfbrown.proofs.lemmas.map.Layout.{kept_none, state_of}
use Rattle.halfbrown.proofs.map.LimitedHashMap.clear.Goals as goal

pub invariant_of-self : goal.invariant_of-self
invariant_of-self g c =
    let told = c.clear.ensures in
    kept_none _ _ _ _ c.clear.new.self c.self.invariant told.form told.pairs told.hashes

pub returns-clause-valid : goal.returns-clause-valid
returns-clause-valid g c = state_of _ _ _ _ _ (invariant_of-self g c)
