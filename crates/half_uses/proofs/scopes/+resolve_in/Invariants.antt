use Rattle.std.proofs.Common.{length}
use Rattle.half_uses.proofs.scopes.+resolve_in.Given as goal

abbrev pub decreases-resolve_in : goal.decreases-resolve_in
decreases-resolve_in g l = length l.scopes.now
