use Rattle.std.proofs.Common.{ℕ, nat_lt, rules, tests}
use Rattle.std.proofs.lemmas.Iterator.Consumers.{YieldsList-from_first}
use Rattle.std.proofs.lemmas.Iterator.Search.{any_from_yields_List}
use Rattle.std.specs.Map.Iter.{deref_pair}
use Rattle.halfbrown.specs.Iter.{pairs_left}
use Rattle.half_callers.proofs.iteration.is_pair_above.Goals as goal

pub returns : goal.returns
returns g c = any_from_yields_List (λ (pair : g.row.K.Denot × ℕ). nat_lt c.args.least pair.1) c.any.new.self _ c.any.result c.any.ensures.ran
    (YieldsList-from_first deref_pair pairs_left c.args.ledger.now.pairs c.iter.ensures.left) (λ x b q k. search (rules, tests))
