use Rattle.halfbrown.proofs.Common.{refl, subst}
use Rattle.halfbrown.specs.Insertion.{IsPreparedFor}
use Rattle.halfbrown.proofs.lemmas.entry.Methods.{found_key, found_writes, missing_key, missing_writes}
use Rattle.halfbrown.proofs.map.LimitedHashMap.entry_counted.Goals as goal

pub returns-in-Ok-Held : goal.returns-in-Ok-Held
returns-in-Ok-Held g c =
    let eq = g.K.PartialEq.eq in
    let laws = g.met.K.Eq.laws in
    let limit = g.L.Limit.LIMIT in
    let old = c.args.self.now in
    let key = c.args.key in
    let prepares = c.in-Ok-Held.ensures.prepares in
    let at = subst (IsPreparedFor eq g.S.KeyHasher.hash c.prepare.new.self key)
    c.in-Ok-Held.field-0-is c.in-Ok-Held.ensures.place in (
      (refl, λ n. refl, tt),
      record {
        unchanged = tt;
        makes = record {
          same_map = refl;
          entry = found_key limit eq laws old key _ prepares.ok prepares.valid.distinct _ at.0;
          new_key = λ held. cc held;
          writes = found_writes limit eq laws old key _ prepares.ok prepares.valid.distinct _ at.0;
          prepares = prepares.ok;
          succeeds = λ enough. refl;
          returned = tt;
          valid = prepares.valid;
        };
        cost = c.in-Ok-Held.ensures.cost;
      },
    )

pub returns-in-Ok-Vacant : goal.returns-in-Ok-Vacant
returns-in-Ok-Vacant g c =
    let eq = g.K.PartialEq.eq in
    let laws = g.met.K.Eq.laws in
    let limit = g.L.Limit.LIMIT in
    let old = c.args.self.now in
    let key = c.args.key in
    let prepares = c.in-Ok-Vacant.ensures.prepares in
    let place = subst (IsPreparedFor eq g.S.KeyHasher.hash c.prepare.new.self key)
    c.in-Ok-Vacant.field-0-is c.in-Ok-Vacant.ensures.place in (
      (refl, λ n. refl, tt),
      record {
        unchanged = tt;
        makes = record {
          same_map = refl;
          entry = missing_key limit eq laws old key _ prepares.ok prepares.valid.distinct _ place.absent;
          new_key = λ vacant. refl;
          writes = missing_writes limit eq laws old key _ prepares.ok prepares.valid.distinct _ place.absent;
          prepares = prepares.ok;
          succeeds = λ enough. refl;
          returned = tt;
          valid = prepares.valid;
        };
        cost = c.in-Ok-Vacant.ensures.cost;
      },
    )
