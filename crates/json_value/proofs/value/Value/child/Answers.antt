use Rattle.json_value.proofs.Common.{◌≡◌, slice_get, sym, ap, ◌∙◌, arith, rules, common_steps, gets, option_copied, children}
use Rattle.json_value.proofs.Pointer.{child-at, child-member, children-List}
use Rattle.json_value.proofs.value.Value.child.Goals as goal

pub returns-in-List : goal.returns-in-List
returns-in-List c =
    let items = c.in-List.items.items in
    let i = c.in_ok-place.place in
    let found : option_copied c.get.result ≡ slice_get items i = rw (← c.deref.ensures.value) (grind (arith, common_steps, gets)) in
    found ∙ sym (child-at _ c.args.step.now i items (search rules) (ap children c.in-List.is ∙ children-List c.in-List.items))

pub returns-in_err-value-in-Object : goal.returns-in_err-value-in-Object
returns-in_err-value-in-Object c =
    let found = child-member _ c.in-Object.members c.args.step.now c.in_ok-place.place c.get_index.result c.in-Object.is (search rules) c.get_index.ensures.pair in
    search rules

pub returns-in_ok-value-in-Object : goal.returns-in_ok-value-in-Object
returns-in_ok-value-in-Object c =
    let found = child-member _ c.in-Object.members c.args.step.now c.in_ok-place.place c.get_index.result c.in-Object.is (search rules) c.get_index.ensures.pair in
    search rules
