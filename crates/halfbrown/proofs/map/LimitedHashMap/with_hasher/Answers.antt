use Rattle.halfbrown.proofs.Common.{arith, common_steps}
use Rattle.halfbrown.proofs.lemmas.map.Layout.{kept_empty, state_of}
use Rattle.halfbrown.proofs.map.LimitedHashMap.with_hasher.Goals as goal

pub invariant_of-result : goal.invariant_of-result
invariant_of-result g c =
    kept_empty g.K.PartialEq.eq (g.S.KeyHasher.hash c.args.builder) g.L.Limit.LIMIT c.new.result
    c.new.ensures

pub returns-clause-valid : goal.returns-clause-valid
returns-clause-valid g c = grind (arith, common_steps, invariant_of-result, state_of)
