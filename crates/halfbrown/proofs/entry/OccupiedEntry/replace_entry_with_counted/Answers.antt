use Rattle.halfbrown.proofs.lemmas.entry.Methods.{keeps_pair, kept_within, loses_pair}
use Rattle.halfbrown.proofs.entry.OccupiedEntry.replace_entry_with_counted.Goals as goal

pub invariant_of-result : goal.invariant_of-result
invariant_of-result g c =
    let told = c.in-Ok.ensures in record { within = kept_within c.args.self.within told.replaces told.at; placed = told.placed }

pub returns-in-Ok-clause-replaced : goal.returns-in-Ok-clause-replaced
returns-in-Ok-clause-replaced g c =
    keeps_pair c.args.self _ _ c.in-Ok.ensures.replaces c.in-Ok.ensures.at c.in-Ok.ensures.after

pub returns-in-Err-clause-replaced : goal.returns-in-Err-clause-replaced
returns-in-Err-clause-replaced g c =
    loses_pair c.args.self _ _ _ c.in-Err.ensures.replaces c.in-Err.ensures.after
