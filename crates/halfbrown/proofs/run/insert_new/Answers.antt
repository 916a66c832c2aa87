use Rattle.halfbrown.proofs.Common.{refl, ◌∙◌, sym, subst, TallyGrewBy}
use Rattle.halfbrown.specs.declared.run.Command.TheVariants.{InsertNew}
use Rattle.halfbrown.proofs.lemmas.map.Costs.{key_costs, spent_both, more_none}
use Rattle.halfbrown.proofs.run.insert_new.Goals as goal

pub returns-then-contains_key_counted : goal.returns-then-contains_key_counted
returns-then-contains_key_counted g c =
    let law = g.met.S.KeyHasher.hash_is c.args.map.now.builder c.args.key in
    let searched = key_costs g.K.PartialEq.eq g.S.KeyHasher.hash c.args.map.now c.args.key _ _ _ law c.contains_key_counted.ensures.cost in
    let held = sym c.contains_key_counted.ensures.held ∙ c.if-contains_key_counted.true in
    record {
      step = rw held (refl, refl);
      cost = rw held (subst (λ cost. TallyGrewBy cost c.args.tally.now c.contains_key_counted.new.tally) (more_none _) searched.grew);
    }

pub insert_nocheck_counted-requires : goal.insert_nocheck_counted-requires
insert_nocheck_counted-requires g c = sym c.contains_key_counted.ensures.held ∙ c.if-contains_key_counted.false

pub returns-in-Ok : goal.returns-in-Ok
returns-in-Ok g c =
    let law = g.met.S.KeyHasher.hash_is c.args.map.now.builder c.args.key in
    let searched = key_costs g.K.PartialEq.eq g.S.KeyHasher.hash c.args.map.now c.args.key _ _ _ law c.contains_key_counted.ensures.cost in
    let held = sym c.contains_key_counted.ensures.held ∙ c.if-contains_key_counted.false in
    record {
      step = rw held (refl, c.in-Ok.ensures.inserts.puts);
      cost = rw held (spent_both _ _ _ _ _ searched.grew c.in-Ok.ensures.cost);
    }

pub returns-in-Err : goal.returns-in-Err
returns-in-Err g c =
    let law = g.met.S.KeyHasher.hash_is c.args.map.now.builder c.args.key in
    let searched = key_costs g.K.PartialEq.eq g.S.KeyHasher.hash c.args.map.now c.args.key _ _ _ law c.contains_key_counted.ensures.cost in
    let back = c.in-Err.ensures.inserts.returned in
    let held = sym c.contains_key_counted.ensures.held ∙ c.if-contains_key_counted.false in
    record {
      step = rw held ((λ i. InsertNew (back.key i) (back.value i)), back.why, back.unchanged);
      cost = rw held (spent_both _ _ _ _ _ searched.grew c.in-Err.ensures.cost);
    }
