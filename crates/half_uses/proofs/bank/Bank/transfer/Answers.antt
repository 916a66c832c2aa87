use Rattle.std.proofs.Common.{ap, sym}
use Rattle.halfbrown.specs.State.{map_with_pairs}
use Rattle.halfbrown.proofs.callers.Keys.{set_same}
use Rattle.half_uses.proofs.bank.Bank.transfer.Goals as goal

pub returns-then-balance-amount-clause-err : goal.returns-then-balance-amount-clause-err
returns-then-balance-amount-clause-err g c =
    ap (map_with_pairs c.args.self.now.balances) (set_same (g.A.PartialEq.eq c.args.from.now) _ _ (sym c.in-Some.ensures.value))
