use Rattle.halfbrown.proofs.Common.{cond, ◌∙◌, rules}
use Rattle.halfbrown.specs.RawEntry.{work_after_adding, prepared_map}
use Rattle.halfbrown.proofs.lemmas.map.Costs.{key_costs, raw_costs}
use Rattle.halfbrown.proofs.run.raw_or_insert.Goals as goal

pub returns-in-Ok : goal.returns-in-Ok
returns-in-Ok g c =
    let hash = g.S.KeyHasher.hash in
    let key = c.args.key in
    let searched = c.from_key_counted-found.new.tally in
    let m = prepared_map c.in-Ok.entries in
    let finds = c.from_key_counted-found.ensures.searches.finds in
    record {
      step = search rules;
      cost =
          raw_costs g.L.Limit.LIMIT g.K.PartialEq.eq hash c.args.map.now m key c.in-Ok.ensures.makes.prepares
          c.in-Ok.ensures.makes.capacity
          c.args.tally.now c.raw_entry_mut_counted.new.tally searched c.or_insert_entry_counted-entry.new.tally c.in-Ok.ensures.cost
          (key_costs g.K.PartialEq.eq hash m key _ _ _ (g.met.S.KeyHasher.hash_is m.builder key) c.from_key_counted-found.ensures.cost)
          (c.or_insert_entry_counted-entry.ensures.cost ∙ (λ i. cond (finds.entry.occupied i) searched (work_after_adding hash (finds.map i) key searched)));
    }
