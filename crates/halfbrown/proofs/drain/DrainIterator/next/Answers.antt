use Rattle.halfbrown.proofs.Common.{refl}
use Rattle.halfbrown.proofs.lemmas.drain.{same_drain}
use Rattle.halfbrown.proofs.drain.DrainIterator.next.Goals as goal

pub returns-in_err-pair-clause-steps : goal.returns-in_err-pair-clause-steps
returns-in_err-pair-clause-steps g c =
    let none = c.in_err-pair.ensures.first in
    rw c.from_residual.ensures (none.0, same_drain c.args.self.now _ refl none.1)
