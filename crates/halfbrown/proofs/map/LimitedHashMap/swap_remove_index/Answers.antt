use Rattle.halfbrown.proofs.Common.{Some, subst, rules}
use Rattle.halfbrown.specs.Updates.{SwapRemovesAt}
use Rattle.halfbrown.proofs.lemmas.map.Remove.{removed_at, none_removed_at}
use Rattle.halfbrown.proofs.map.LimitedHashMap.swap_remove_index.Goals as goal

pub returns-then-index-len : goal.returns-then-index-len
returns-then-index-len g c =
    let told = c.take_at.ensures in
    subst (λ n. SwapRemovesAt g.L.Limit.LIMIT g.K.PartialEq.eq c.args.self.now n (Some c.take_at.result) c.take_at.new.self) c.place_of-found.ensures.index
    (removed_at _ _ _ _ g.met.K.Eq.laws c.take_at.result _ c.len.ensures.valid told.valid told.taken told.after)

pub returns-else-index-len : goal.returns-else-index-len
returns-else-index-len g c = none_removed_at _ _ _ c.args.index c.len.ensures.valid (search rules)
