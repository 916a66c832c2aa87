use Rattle.halfbrown.proofs.Common.{◌<◌, length, arith, ap, sym, subst, IsMapInvariant, KeyMissing, IsVacancyIn}
use Rattle.half_store.specs.Store.{IsVacancy}
use Rattle.halfbrown.proofs.lemmas.pairs.Indices.{absent_of_unheld}
use Rattle.halfbrown.proofs.lemmas.map.Layout.{kept_pushed, state_of}
use Rattle.halfbrown.proofs.map.LimitedHashMap.push.Goals as goal

pub invariant_of-self : goal.invariant_of-self
invariant_of-self g c =
    let eq = g.K.PartialEq.eq in
    let hash = g.S.KeyHasher.hash c.self.inside.builder in
    let store = c.self.inside.store in
    let key = c.args.key in
    let vacancy = c.args.vacancy in
    let absent : KeyMissing (eq key) store.pairs =
    subst (KeyMissing (eq key)) (sym (ap (λ m. m.pairs) c.self.view_is))
    (absent_of_unheld (eq key) c.args.self.now.pairs c.requires.absent) in
    let room : length store.pairs < store.capacity =
    omega (arith, c.requires.capacity, ap length (ap (λ m. m.pairs) c.self.view_is), ap (λ m. m.capacity) c.self.view_is) in
    let vacant : IsVacancy store (hash key) vacancy =
    subst (λ m. IsVacancyIn m (g.S.KeyHasher.hash m.builder key) vacancy)
    (sym c.self.view_is) c.requires.vacant in
    subst (IsMapInvariant g.L.Limit.LIMIT eq hash) (sym c.push.ensures.after)
    (kept_pushed eq hash g.L.Limit.LIMIT g.met.K.Eq.laws store key c.args.value vacancy c.self.invariant absent room
    (λ table. (vacant table).0))

pub returns-clause-valid : goal.returns-clause-valid
returns-clause-valid g c = state_of _ _ _ _ _ (invariant_of-self g c)
