use Rattle.std.proofs.Common.{◌+◌, rules}
use Rattle.half_callers.proofs.guests.Stock.add.Goals as goal

pub invariant_of-self : goal.invariant_of-self
invariant_of-self c = let set = c.in-Some.ensures.once_written (c.in-Some.count.now + c.args.more) in search rules
