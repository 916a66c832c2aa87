use Rattle.halfbrown.proofs.lemmas.map.Layout.{kept_made, state_of}
use Rattle.halfbrown.proofs.drain.Drain.drop.Goals as goal

pub invariant_of-map : goal.invariant_of-map
invariant_of-map g c =
    let told = c.into_store.ensures in
    kept_made _ _ _ c.into_store.result told.pairs told.hashes (rw (told.form.form, told.form.capacity) c.args.self.allowed)

pub returns-clause-valid : goal.returns-clause-valid
returns-clause-valid g c =
    let told = c.into_store.ensures in
    state_of _ (g.S.KeyHasher.hash c.map.inside.builder) _ _ _
    (kept_made _ _ _ c.into_store.result told.pairs told.hashes (rw (told.form.form, told.form.capacity) c.args.self.allowed))
