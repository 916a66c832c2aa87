use Rattle.std.proofs.Common.{ℕ, nat_le, rules, tests}
use Rattle.std.proofs.lemmas.Iterator.Consumers.{YieldsList-from_first}
use Rattle.std.proofs.lemmas.Iterator.Search.{all_from_yields_List}
use Rattle.std.specs.Map.Iter.{deref_pair}
use Rattle.halfbrown.specs.Iter.{pairs_left}
use Rattle.half_callers.proofs.iteration.are_pairs_at_least.Goals as goal

pub returns : goal.returns
returns g c = all_from_yields_List (λ (pair : g.row.K.Denot × ℕ). nat_le c.args.least pair.1) c.all.new.self _ c.all.result c.all.ensures.ran
    (YieldsList-from_first deref_pair pairs_left c.args.ledger.now.pairs c.iter.ensures.left) (λ x b q k. search (rules, tests))
