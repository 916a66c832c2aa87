use Rattle.halfbrown.proofs.Common.{arith, common_steps}
use Rattle.halfbrown.proofs.lemmas.map.Equality.{all_is_same, unequal_lengths, costs_none, none_searched}
use Rattle.halfbrown.proofs.map.LimitedHashMap.same_pairs_counted.Goals as goal

pub returns-then-len-clause-same : goal.returns-then-len-clause-same
returns-then-len-clause-same g c = grind (arith, common_steps, unequal_lengths)

pub returns-then-len-clause-cost : goal.returns-then-len-clause-cost
returns-then-len-clause-cost g c = grind (arith, common_steps, costs_none, none_searched)

pub returns-clause-same : goal.returns-clause-same
returns-clause-same g c = grind (arith, common_steps, all_is_same)
