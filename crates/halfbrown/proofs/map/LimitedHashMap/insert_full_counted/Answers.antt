use Rattle.halfbrown.proofs.Common.{Some, ap, ◌∙◌, None, sym, subst, index_of}
use Rattle.halfbrown.specs.Insertion.{IsPreparedFor}
use Rattle.halfbrown.proofs.lemmas.map.Insert.{inserted_at}
use Rattle.halfbrown.proofs.lemmas.map.Layout.{keys_of-set_value_at}
use Rattle.halfbrown.proofs.lemmas.pairs.Indices.{index_of-added}
use Rattle.halfbrown.proofs.map.LimitedHashMap.insert_full_counted.Goals as goal

pub returns-in-Ok-Held-clause-inserts : goal.returns-in-Ok-Held-clause-inserts
returns-in-Ok-Held-clause-inserts g c =
    let eq = g.K.PartialEq.eq in
    let key = c.args.key in
    let middle = c.prepare.new.self in
    let found = c.in-Ok-Held.ensures in
    let place = subst (IsPreparedFor eq g.S.KeyHasher.hash middle key) c.in-Ok-Held.field-0-is found.place in
    inserted_at g.L.Limit.LIMIT eq g.met.K.Eq.laws c.args.self.now middle c.set_at.new.self key c.args.value _
    c.set_at.ensures.after (place.0.put_is key c.args.value)
    found.prepares.ok c.in-Ok-Held.found.index (Some c.set_at.result) (sym c.set_at.ensures.old ∙ sym place.0.value)
    (ap (index_of (eq key)) (keys_of-set_value_at middle.pairs c.in-Ok-Held.found.index c.args.value) ∙ place.0.index_is) c.set_at.ensures.valid

pub returns-in-Ok-Vacant-clause-inserts : goal.returns-in-Ok-Vacant-clause-inserts
returns-in-Ok-Vacant-clause-inserts g c =
    let eq = g.K.PartialEq.eq in
    let key = c.args.key in
    let middle = c.prepare.new.self in
    let missing = c.in-Ok-Vacant.ensures in
    let place = subst (IsPreparedFor eq g.S.KeyHasher.hash middle key) c.in-Ok-Vacant.field-0-is missing.place in
    inserted_at g.L.Limit.LIMIT eq g.met.K.Eq.laws c.args.self.now middle c.push-added.new.self key c.args.value _ c.push-added.ensures.after
    (place.absent.put_is key c.args.value)
    missing.prepares.ok c.push-added.result.index None (sym place.absent.value)
    (index_of-added (eq key) middle.pairs key c.args.value place.absent.index (g.met.K.Eq.laws.refl key) ∙ ap (λ n. Some n) (sym c.push-added.ensures.index))
    c.push-added.ensures.valid
