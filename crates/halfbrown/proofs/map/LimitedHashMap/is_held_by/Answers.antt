use Rattle.halfbrown.proofs.Common.{arith, slice_get, ap, ◌∙◌, not, common_steps, holds_equal_pair}
use Rattle.halfbrown.proofs.lemmas.map.Costs.{key_costs}
use Rattle.halfbrown.proofs.lemmas.map.Equality.{held_unless, all_on, all_ends, costs_done, costs_on, costs_last}
use Rattle.halfbrown.proofs.map.LimitedHashMap.is_held_by.Goals as goal

pub returns-then-ne-clause-held : goal.returns-then-ne-clause-held
returns-then-ne-clause-held g c = grind (arith, common_steps, all_ends, held_unless, not, slice_get)

pub returns-then-ne-clause-cost : goal.returns-then-ne-clause-cost
returns-then-ne-clause-cost g c =
    let hash = g.S2.KeyHasher.hash in
    let key = c.pair_at.result.0.now in
    let searched = key_costs g.K.PartialEq.eq hash c.args.other.now key _ _ _ (g.met.S2.KeyHasher.hash_is c.args.other.now.builder key)
    c.get_counted.ensures.cost in
    let unheld = held_unless g.K.PartialEq.eq g.V.PartialEq.eq c.args.other.now.pairs c.pair_at.result.0.now c.pair_at.result.1
    c.get_counted.result c.ne.result c.get_counted.ensures.value c.ne.ensures ∙ ap not c.if-ne.true in
    c.loop-index.invariant.cost c.get_counted.new.tally
    (costs_last g.K.PartialEq.eq hash c.args.other.now g.V.PartialEq.eq c.args.self.now.pairs c.loop-index.index
    (c.pair_at.result.0.now, c.pair_at.result.1.now)
    c.pair_at.ensures.pair
    c.loop-index.tally c.get_counted.new.tally searched unheld)

pub loop-index-preserved : goal.loop-index-preserved
loop-index-preserved g c =
    let test = holds_equal_pair g.K.PartialEq.eq g.V.PartialEq.eq c.args.other.now.pairs in
    let hash = g.S2.KeyHasher.hash in
    let key = c.pair_at.result.0.now in
    let searched = key_costs g.K.PartialEq.eq hash c.args.other.now key _ _ _ (g.met.S2.KeyHasher.hash_is c.args.other.now.builder key)
    c.get_counted.ensures.cost in
    let held = held_unless g.K.PartialEq.eq g.V.PartialEq.eq c.args.other.now.pairs c.pair_at.result.0.now c.pair_at.result.1
    c.get_counted.result c.ne.result c.get_counted.ensures.value c.ne.ensures ∙ ap not c.if-ne.false in
    record {
      held = c.loop-index.invariant.held
          ∙ all_on test c.args.self.now.pairs c.loop-index.index (c.pair_at.result.0.now, c.pair_at.result.1.now)
          c.pair_at.ensures.pair held;
      cost = λ after more. c.loop-index.invariant.cost after
          (costs_on g.K.PartialEq.eq hash c.args.other.now g.V.PartialEq.eq c.args.self.now.pairs c.loop-index.index
          (c.pair_at.result.0.now, c.pair_at.result.1.now)
          c.pair_at.ensures.pair
          c.loop-index.tally c.get_counted.new.tally searched held after more);
    }

pub returns-clause-cost : goal.returns-clause-cost
returns-clause-cost g c = grind (arith, common_steps, costs_done)
