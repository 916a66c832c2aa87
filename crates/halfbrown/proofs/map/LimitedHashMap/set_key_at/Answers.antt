use Rattle.halfbrown.proofs.Common.{◌≡◌, true, slice_get, ap, ◌∙◌, sym, subst, keys_of, IsMapInvariant}
use Rattle.halfbrown.specs.Updates.{HasKeyReplaced}
use Rattle.halfbrown.proofs.lemmas.map.Layout.{kept_key, state_of}
use Rattle.halfbrown.proofs.lemmas.pairs.Changes.{equal_at, has_key_replaced}
use Rattle.halfbrown.proofs.map.LimitedHashMap.set_key_at.Goals as goal

pub invariant_of-self : goal.invariant_of-self
invariant_of-self g c =
    let eq = g.K.PartialEq.eq in
    let hash = g.S.KeyHasher.hash c.self.inside.builder in
    let store = c.self.inside.store in
    let old = c.set_key_at.result in
    let key = c.args.key in
    let at = c.set_key_at.ensures.old in
    let same : eq old key ≡ true =
    equal_at eq g.met.K.Eq.laws old key (ap (λ m. slice_get (keys_of m.pairs) c.args.index) (sym c.self.view_is) ∙ at)
    c.requires.equal in
    let builder = c.self.inside.builder in
    let law = g.met.S.KeyHasher.hash_is builder in
    let alike = law old ∙ ap (g.S.KeyHasher.hash_writes builder) (g.met.K.Hash.respects_eq old key same) ∙ sym (law key) in
    subst (IsMapInvariant g.L.Limit.LIMIT eq hash) (sym c.set_key_at.ensures.after)
    (kept_key eq hash g.L.Limit.LIMIT g.met.K.Eq.laws store c.args.index old key c.self.invariant at same alike)

pub returns-clause-valid : goal.returns-clause-valid
returns-clause-valid g c = state_of _ _ _ _ _ (invariant_of-self g c)

pub returns-clause-replaced : goal.returns-clause-replaced
returns-clause-replaced g c =
    let eq = g.K.PartialEq.eq in
    let store = c.self.inside.store in
    let old = c.set_key_at.result in
    let key = c.args.key in
    let at = c.set_key_at.ensures.old in
    let same : eq old key ≡ true =
    equal_at eq g.met.K.Eq.laws old key (ap (λ m. slice_get (keys_of m.pairs) c.args.index) (sym c.self.view_is) ∙ at)
    c.requires.equal in
    let replaced = has_key_replaced eq g.met.K.Eq.laws old key same store.pairs c.args.index at c.self.invariant.distinct in
    subst (λ m. HasKeyReplaced eq m.pairs key c.set_key_at.new.self.pairs) c.self.view_is
    (subst (λ s. HasKeyReplaced eq store.pairs key s.pairs) (sym c.set_key_at.ensures.after) replaced)
