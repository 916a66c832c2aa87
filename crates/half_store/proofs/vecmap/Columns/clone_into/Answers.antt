use Rattle.half_store.proofs.Common.{arith, subst, AllZip, zip}
use Rattle.half_store.proofs.lemmas.vecmap.Columns.{opened}
use Rattle.half_store.proofs.lemmas.vecmap.Zip.{all_zip-zip}
use Rattle.half_store.proofs.vecmap.Columns.clone_into.Goals as goal
use Rattle.half_store.proofs.lemmas.vecmap.Columns.{columns_steps}

pub returns-clause-pairs : goal.returns-clause-pairs
returns-clause-pairs g c =
    let o = opened c.self.inside.keys c.self.inside.values c.args.self.now c.self.view_is c.self.invariant in
    let C = g.K.Clone.is_clone in
    let D = g.V.Clone.is_clone in
    let ks = c.in_ok-keys.keys.items in
    let vs = c.in_ok-values.values.items in
    subst (λ ps. AllZip (λ p q. C p.0 q.0 × D p.1 q.1) ps (zip ks vs)) o.pairs
    (all_zip-zip C D c.self.inside.keys.items ks c.self.inside.values.items vs
    (subst (λ xs. AllZip C xs ks) c.as_slice.ensures.value c.in_ok-keys.ensures.items)
    (subst (λ xs. AllZip D xs vs) c.as_slice-2.ensures.value c.in_ok-values.ensures.items))

pub clone_all-requires-clause-fits : goal.clone_all-requires-clause-fits
clone_all-requires-clause-fits g c = grind (arith, columns_steps)
