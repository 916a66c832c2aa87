use Rattle.std.proofs.Common.{arith}
use Rattle.std.proofs.lemmas.Grind.{common_steps}
use Rattle.half_uses.proofs.TableCapacity.{enough}
use Rattle.half_uses.proofs.bounded_cache.BoundedCache.new.Goals as goal

pub invariant_of-result-clause-room : goal.invariant_of-result-clause-room
invariant_of-result-clause-room g c = grind (arith, common_steps, enough c.args.bound)
