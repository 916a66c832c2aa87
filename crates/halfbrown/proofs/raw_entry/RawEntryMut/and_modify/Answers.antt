use Rattle.halfbrown.proofs.Common.{Some, refl, sym, subst}
use Rattle.halfbrown.specs.RawEntry.{MayLeaveValue, ModifiesPair}
use Rattle.halfbrown.proofs.lemmas.entry.Methods.{modified_entry}
use Rattle.halfbrown.proofs.raw_entry.RawEntryMut.and_modify.Goals as goal

pub returns-in-Occupied : goal.returns-in-Occupied
returns-in-Occupied g c =
    let lent = c.get_key_value_mut-value in
    let left = c.f.new.arg3 in
    let changed : MayLeaveValue g.F.FnOnce c.args.f (lent.result.0.now, lent.result.1.now) left =
    record { key = lent.result.0; lent = lent.result.1; result = c.f.result; left = _; shows = refl; met = c.f.ensures; after = refl } in
    rw c.in-Occupied.is (modified_entry c.in-Occupied.entry _ left
    (subst (λ pair. ModifiesPair g.F.FnOnce c.args.f pair (Some left)) (sym lent.ensures.pair) changed))
