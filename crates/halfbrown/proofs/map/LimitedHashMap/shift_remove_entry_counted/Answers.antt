use Rattle.halfbrown.proofs.Common.{refl}
use Rattle.halfbrown.proofs.lemmas.map.Remove.{absent_in_order, shift_found}
use Rattle.halfbrown.proofs.map.LimitedHashMap.shift_remove_entry_counted.Goals as goal

pub returns-in-Ok-clause-removes : goal.returns-in-Ok-clause-removes
returns-in-Ok-clause-removes g c =
    let found = c.in-Ok.ensures in
    shift_found _ _ g.met.K.Eq.laws _ found.valid _ (g.met.Q.Equivalent.stands_for_equals c.args.key)
    _ _ _ found.found.0 c.shift_take_at.ensures

pub returns-in-Err-clause-removes : goal.returns-in-Err-clause-removes
returns-in-Err-clause-removes g c =
    absent_in_order _ _ g.met.K.Eq.laws _ c.in-Err.ensures.valid _ (g.met.Q.Equivalent.stands_for_equals c.args.key) _ refl c.in-Err.ensures.found.0
