use Rattle.halfbrown.proofs.Common.{Some, None, sym, subst, ◌∙◌}
use Rattle.halfbrown.specs.Insertion.{IsPreparedFor}
use Rattle.halfbrown.proofs.lemmas.map.Insert.{inserted}
use Rattle.halfbrown.proofs.map.LimitedHashMap.insert_counted.Goals as goal

pub returns-in-Ok-Held-clause-inserts : goal.returns-in-Ok-Held-clause-inserts
returns-in-Ok-Held-clause-inserts g c =
    let found = c.in-Ok-Held.ensures in
    let place = subst (IsPreparedFor g.K.PartialEq.eq g.S.KeyHasher.hash c.prepare.new.self c.args.key) c.in-Ok-Held.field-0-is found.place in
    inserted g.L.Limit.LIMIT g.K.PartialEq.eq g.met.K.Eq.laws c.args.self.now c.prepare.new.self c.set_at.new.self c.args.key c.args.value _
    c.set_at.ensures.after (place.0.put_is c.args.key c.args.value) found.prepares.ok
    (Some c.set_at.result) (sym c.set_at.ensures.old ∙ sym place.0.value) c.set_at.ensures.valid

pub returns-in-Ok-Vacant-clause-inserts : goal.returns-in-Ok-Vacant-clause-inserts
returns-in-Ok-Vacant-clause-inserts g c =
    let missing = c.in-Ok-Vacant.ensures in
    let place = subst (IsPreparedFor g.K.PartialEq.eq g.S.KeyHasher.hash c.prepare.new.self c.args.key) c.in-Ok-Vacant.field-0-is missing.place in
    inserted g.L.Limit.LIMIT g.K.PartialEq.eq g.met.K.Eq.laws c.args.self.now c.prepare.new.self c.push.new.self c.args.key c.args.value _
    c.push.ensures.after (place.absent.put_is c.args.key c.args.value) missing.prepares.ok
    None (sym place.absent.value) c.push.ensures.valid
