use Rattle.halfbrown.proofs.Common.{refl}
use Rattle.halfbrown.proofs.lemmas.map.Remove.{taken_found, removed_value}
use Rattle.halfbrown.proofs.map.LimitedHashMap.remove_counted.Goals as goal

pub returns-in-Ok-clause-removes : goal.returns-in-Ok-clause-removes
returns-in-Ok-clause-removes g c =
    let searched = c.in-Ok.ensures in
    let told = c.take_at.ensures in
    removed_value _ _ _ _ _ _ _ refl
    (taken_found _ _ g.met.K.Eq.laws _ (g.met.Q.Equivalent.stands_for_equals c.args.key) _ searched.valid _ _ _ searched.found.0 told.taken told.after
    told.valid)
