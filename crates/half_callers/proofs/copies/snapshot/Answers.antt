use Rattle.std.proofs.Common.{rules}
use Rattle.halfbrown.proofs.callers.Texts.{cloned_texts}
use Rattle.half_callers.proofs.copies.snapshot.Goals as goal

pub returns-clause-ids : goal.returns-clause-ids
returns-clause-ids c = cloned_texts (λ v copy same. search rules) c.in_ok-copy.ensures.cases.1.0
