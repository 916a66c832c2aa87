use Rattle.halfbrown.proofs.Common.{arith, subst, common_steps}
use Rattle.half_store.specs.Capacity.{IsFormCapacity}
use Rattle.halfbrown.proofs.lemmas.map.Layout.{kept_made, state_of}
use Rattle.halfbrown.proofs.map.LimitedHashMap.with_capacity_and_hasher.Goals as goal

pub invariant_of-result : goal.invariant_of-result
invariant_of-result g c =
    let made = c.in_ok-with_capacity.ensures.makes.made in
    kept_made g.K.PartialEq.eq (g.S.KeyHasher.hash c.args.builder) g.L.Limit.LIMIT c.in_ok-with_capacity.field-0 made.pairs made.hashes
    (subst (λ n. IsFormCapacity n c.in_ok-with_capacity.field-0.is_vec c.in_ok-with_capacity.field-0.capacity) c.LIMIT.ensures made.allowed)

pub returns-clause-valid : goal.returns-clause-valid
returns-clause-valid g c = grind (arith, common_steps, invariant_of-result, state_of)
