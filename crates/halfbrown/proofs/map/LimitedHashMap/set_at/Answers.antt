use Rattle.halfbrown.proofs.lemmas.map.Layout.{kept_value, state_of}
use Rattle.halfbrown.proofs.map.LimitedHashMap.set_at.Goals as goal

pub invariant_of-self : goal.invariant_of-self
invariant_of-self g c = kept_value _ _ _ _ c.args.index c.replace.new.dest c.self.invariant

pub returns-clause-valid : goal.returns-clause-valid
returns-clause-valid g c = state_of _ _ _ _ _ (invariant_of-self g c)
