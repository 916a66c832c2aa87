use Rattle.halfbrown.proofs.Common.{Some, subst, rules}
use Rattle.halfbrown.specs.Updates.{ShiftRemovesAt}
use Rattle.halfbrown.proofs.lemmas.map.Remove.{shift_none_held}
use Rattle.halfbrown.proofs.map.LimitedHashMap.shift_remove_index.Goals as goal

pub returns-then-index-len : goal.returns-then-index-len
returns-then-index-len g c =
    subst (λ n. ShiftRemovesAt g.L.Limit.LIMIT g.K.PartialEq.eq c.args.self.now n (Some c.shift_take_at.result) c.shift_take_at.new.self)
    c.place_of-found.ensures.index c.shift_take_at.ensures

pub returns-else-index-len : goal.returns-else-index-len
returns-else-index-len g c = shift_none_held _ _ g.met.K.Eq.laws _ c.len.ensures.valid c.args.index (search rules)
