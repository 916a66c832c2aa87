use Rattle.halfbrown.proofs.Common.{Some, refl, ap, ◌∙◌, sym, subst, entry_value}
use Rattle.std.specs.Map.Calls.{MayWrite, ModifiesValue}
use Rattle.halfbrown.specs.Entry.{view}
use Rattle.halfbrown.proofs.lemmas.entry.Methods.{modified_entry}
use Rattle.halfbrown.proofs.entry.Entry.and_modify.Goals as goal

pub f-requires : goal.f-requires
f-requires g c = c.requires _ (ap (λ entry. entry_value (view entry)) c.in-Occupied.is ∙ c.get_mut.ensures.value)

pub returns-in-Occupied : goal.returns-in-Occupied
returns-in-Occupied g c =
    let left = c.f.new.arg2 in
    let modifies = ModifiesValue g.F.FnOnce c.args.f in
    let changed : MayWrite g.F.FnOnce c.args.f c.get_mut.result.now left =
    record { lent = c.get_mut.result; result = c.f.result; left = _; before = refl; met = c.f.ensures; after = refl } in
    rw c.in-Occupied.is (modified_entry c.in-Occupied.entry _ left
    (subst (λ value. modifies value (Some left)) (sym c.get_mut.ensures.value) changed))
