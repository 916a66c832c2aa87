use Rattle.halfbrown.proofs.Common.{◌≡◌, length, subst, ◌-◌, rules}
use Rattle.halfbrown.specs.Updates.{SwapRemovesAt}
use Rattle.halfbrown.proofs.lemmas.map.Remove.{last_removed}
use Rattle.halfbrown.proofs.map.LimitedHashMap.pop.Goals as goal

pub returns-clause-pairs : goal.returns-clause-pairs
returns-clause-pairs g c =
    let last : c.saturating_sub.result ≡ length c.args.self.now.pairs - 1 = search rules in
    last_removed g.L.Limit.LIMIT g.K.PartialEq.eq c.args.self.now c.swap_remove_index.new.self c.swap_remove_index.result
    (subst (λ n. SwapRemovesAt g.L.Limit.LIMIT g.K.PartialEq.eq c.args.self.now n c.swap_remove_index.result c.swap_remove_index.new.self) last
    c.swap_remove_index.ensures)
