use Rattle.halfbrown.proofs.lemmas.map.Insert.{inserted_unchecked}
use Rattle.halfbrown.proofs.map.LimitedHashMap.insert_nocheck_counted.Goals as goal

pub returns-in-Ok-clause-inserts : goal.returns-in-Ok-clause-inserts
returns-in-Ok-clause-inserts g c =
    inserted_unchecked _ _ g.met.K.Eq.laws _ _ _ c.args.key c.args.value _ c.push.ensures.after
    (c.in-Ok.ensures.vacancy.absent.put_is c.args.key c.args.value) c.in-Ok.ensures.prepares.ok c.push.ensures.valid
