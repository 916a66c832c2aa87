use Rattle.halfbrown.proofs.Common.{◌≡◌, sym, subst, rules, IfOk-weaker}
use Rattle.halfbrown.specs.Making.{IsCloneOf}
use Rattle.halfbrown.proofs.map.LimitedHashMap.clone.Goals as goal

pub returns-clause-cloned : goal.returns-clause-cloned
returns-clause-cloned g c =
    let E = g.S.Clone.is_clone in
    let made = c.in_ok-builder.builder in
    let told = subst (λ m. E m.builder made) c.self.view_is c.in_ok-builder.ensures.cases in
    let is_clone = IsCloneOf g.K.Clone.is_clone g.V.Clone.is_clone in
    IfOk-weaker c.clone_with.result (is_clone (λ _ it. it ≡ made) c.args.self.now) (is_clone E c.args.self.now)
    (λ copy clone. let also = subst (E c.args.self.now.builder) (sym clone.builder) told in search rules) c.clone_with.ensures.cloned
