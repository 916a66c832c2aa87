use Rattle.halfbrown.proofs.Common.{◌<◌, length, arith, ap}
use Rattle.halfbrown.proofs.lemmas.map.Layout.{state_of, kept_replaced, own_hash, absent_replaced}
use Rattle.halfbrown.proofs.map.LimitedHashMap.replace_at.Goals as goal

pub invariant_of-self : goal.invariant_of-self
invariant_of-self g c =
    let told = c.replace_with.ensures in
    let within : c.args.found.index < length c.self.inside.store.pairs = omega (arith, c.requires.within, ap length (ap (λ m. m.pairs) c.self.view_is)) in
    kept_replaced _ g.met.K.Eq.laws _ _ _ _ _ c.self.invariant told.form within c.replace_with.result told.replaces told.hashes told.kept

pub returns-clause-hash : goal.returns-clause-hash
returns-clause-hash g c =
    let told = c.replace_with.ensures in
    own_hash _ g.met.K.Eq.laws _ _ _ _ _ c.self.invariant told.form c.replace_with.result told.replaces told.hash

pub returns-clause-absent : goal.returns-clause-absent
returns-clause-absent g c =
    let told = c.replace_with.ensures in
    absent_replaced _ g.met.K.Eq.laws _ _ _ _ _ c.self.invariant told.form c.replace_with.result told.replaces

pub returns-clause-valid : goal.returns-clause-valid
returns-clause-valid g c = state_of _ _ _ _ _ (invariant_of-self g c)
