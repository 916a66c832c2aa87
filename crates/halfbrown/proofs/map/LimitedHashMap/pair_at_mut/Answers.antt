use Rattle.halfbrown.proofs.lemmas.map.Layout.{kept_value}
use Rattle.halfbrown.proofs.map.LimitedHashMap.pair_at_mut.Goals as goal

pub invariant_of-self-lent : goal.invariant_of-self-lent
invariant_of-self-lent g c w = kept_value _ _ _ _ c.args.index w c.self.invariant
