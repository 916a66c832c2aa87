use Rattle.json_value.proofs.Common.{◌≡◌, IfErr, subst, rules, PutsFirst, Memory}
use Rattle.json_value.proofs.Merging.{merge_refused}
use Rattle.json_value.proofs.value.Value.merge.Goals as goal

pub returns-in-Object-other-clause-err : goal.returns-in-Object-other-clause-err
returns-in-Object-other-clause-err c =
    let others = c.in-Object-other.others in
    let new = c.put_each.new.members in
    let refused = subst (λ m. IfErr c.put_each.result (λ e. (e ≡ Memory) × PutsFirst m.pairs others.pairs new.pairs))
    c.in-Object.members-is c.put_each.ensures.refused in
    merge_refused c.put_each.result c.in-Object.members others new _ _ _ c.in-Object.is c.in-Object-other.is (search rules) refused
