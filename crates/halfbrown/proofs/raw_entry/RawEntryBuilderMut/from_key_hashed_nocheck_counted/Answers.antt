use Rattle.halfbrown.proofs.lemmas.raw_entry.Methods.{finds_held, finds_none}
use Rattle.halfbrown.proofs.raw_entry.RawEntryBuilderMut.from_key_hashed_nocheck_counted.Goals as goal

pub returns-in-Ok-clause-searches : goal.returns-in-Ok-clause-searches
returns-in-Ok-clause-searches g c =
    rw c.self-1.given.1 (finds_held _ _ g.met.K.Eq.laws _ c.in-Ok.ensures.valid _ (g.met.Q.Equivalent.stands_for_equals c.args.key) _ c.in-Ok.ensures.found.0)

pub returns-in-Err-clause-searches : goal.returns-in-Err-clause-searches
returns-in-Err-clause-searches g c =
    rw c.self-1.given.1 (finds_none _ _ g.met.K.Eq.laws _ c.in-Err.ensures.valid _ (g.met.Q.Equivalent.stands_for_equals c.args.key) c.in-Err.ensures.found.0)
