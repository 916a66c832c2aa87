use Rattle.halfbrown.proofs.Common.{arith, ap, ◌∙◌, sym, holds}
use Rattle.halfbrown.proofs.lemmas.map.Costs.{key_costs, held_costs, missing_costs}
use Rattle.halfbrown.proofs.lemmas.map.Growth.{switched_capacity}
use Rattle.halfbrown.proofs.map.LimitedHashMap.prepare.Goals as goal

pub returns-in-Ok-clause-cost : goal.returns-in-Ok-clause-cost
returns-in-Ok-clause-cost g c =
    let eq = g.K.PartialEq.eq in
    let switched = c.in_ok-switch_if_full.ensures.prepares.ok in
    let searched = key_costs eq g.S.KeyHasher.hash c.switch_if_full.new.self c.args.key.now _ _ _
    (g.met.S.KeyHasher.hash_is c.switch_if_full.new.self.builder c.args.key.now) c.in-Ok.ensures.cost in
    held_costs g.L.Limit.LIMIT eq g.S.KeyHasher.hash c.args.self.now c.args.key.now
    c.switch_if_full.new.self c.args.tally.now c.switch_if_full.new.tally c.find.new.tally
    switched.form (switched_capacity _ _ _ switched) switched.pairs switched.builder c.in_ok-switch_if_full.ensures.work searched
    c.in_ok-switch_if_full.ensures.same
    (ap (λ ps. holds eq ps c.args.key.now) (sym switched.pairs) ∙ c.in-Ok.ensures.found.0.held)

pub returns-in_ok-reserve_one_keeping-in-Err-clause-cost : goal.returns-in_ok-reserve_one_keeping-in-Err-clause-cost
returns-in_ok-reserve_one_keeping-in-Err-clause-cost g c =
    let eq = g.K.PartialEq.eq in
    let key = c.args.key.now in
    let switched = c.in_ok-switch_if_full.ensures.prepares.ok in
    let missing = c.in-Err.ensures in
    let law = g.met.S.KeyHasher.hash_is c.switch_if_full.new.self.builder key in
    let searched = key_costs eq g.S.KeyHasher.hash c.switch_if_full.new.self key _ _ _ law missing.cost in
    missing_costs g.L.Limit.LIMIT eq g.S.KeyHasher.hash c.args.self.now key
    c.switch_if_full.new.self c.args.tally.now c.switch_if_full.new.tally c.find.new.tally
    switched.form (switched_capacity _ _ _ switched) switched.pairs switched.builder c.in_ok-switch_if_full.ensures.work searched
    c.in-Err.vacancy.hash (λ table. (missing.found.1 (omega (arith, missing.valid.table_exceeds table)) table).0 ∙ sym law)
    c.reserve_one_keeping.new.tally c.in_ok-reserve_one_keeping-in-Err.ensures.work
    (ap (λ ps. holds eq ps key) (sym switched.pairs) ∙ missing.found.0.held)
