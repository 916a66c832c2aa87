use Rattle.json_value.proofs.Common.{◌≡◌, ◌+◌, [], ◌∷◌, ◌++◌, map, take, sym, ap, ◌∙◌, arith, rules, take_all, take_more}
use Rattle.json_value.proofs.Common.{bytes_eq, string_bytes, string_eq, collected, put, value_view, members_view, items_of}
use Rattle.json_value.proofs.Common.{merged, merged_values, array, object}
use Rattle.json.proofs.Trees.{view-Array, view-Object}
use Rattle.json_value.proofs.Reading.{merged_view, seen, seen_put, values_push, put_all_push, items_merged}
use Rattle.json_value.proofs.Writing.{json_of-List, json_of-Object}
use Rattle.json_value.proofs.value.read.+owned.Goals as goal
use Rattle.json_value.specs.Json.{members_of}

pub loop-name-preserved : goal.loop-name-preserved
loop-name-preserved t c =
    let l = c.loop-name in
    let xs = c.deref-name-items.result.now in
    let x = c.loop-name-item.result in
    let more : take (l.name-index + 1) xs ≡ take l.name-index xs ++ x ∷ [] =
    take_more xs l.name-index x (omega arith) ∙ ap (λ y. take l.name-index xs ++ y ∷ []) (sym c.loop-name-item.is) in
    let name = c.in_ok-from_str-in-Object.field-0 in
    let read = c.in_ok-owned-in-Object.field-0 in
    let inserted : c.insert.new.self.pairs ≡ put string_eq l.object.pairs name read = search rules in
    let named : string_bytes name ≡ x.0.now = search rules in
    let before = merged_values (members_view (take l.name-index xs)) in
    ap seen inserted ∙ seen_put l.object.pairs name read
    ∙ (λ i. put bytes_eq (l.invariant i) (named i) (c.in_ok-owned-in-Object.ensures.ok i))
    ∙ sym (put_all_push [] before (x.0.now, merged_view x.1))
    ∙ ap (collected bytes_eq) (sym (values_push (take l.name-index xs) x))
    ∙ ap (λ ys. collected bytes_eq (merged_values (members_view ys))) (sym more)

pub returns-after-loop-item-clause-ok : goal.returns-after-loop-item-clause-ok
returns-after-loop-item-clause-ok t c =
    let l = c.loop-item in
    let vs = c.in-Array.items in
    let xs = c.deref-item-items.result.now in
    let all : take l.item-index xs ≡ vs.items = take_all l.item-index xs (omega arith) ∙ c.deref-item-items.ensures.value in
    json_of-List l.list ∙ ap (λ js. array (items_of js)) (l.invariant ∙ ap (map merged_view) all) ∙ ap array (sym (items_merged vs.items))
    ∙ ap merged (sym (ap value_view c.in-Array.is ∙ view-Array vs))

pub returns-after-loop-name-clause-ok : goal.returns-after-loop-name-clause-ok
returns-after-loop-name-clause-ok t c =
    let l = c.loop-name in
    let vs = c.in-Object.members in
    let xs = c.deref-name-items.result.now in
    let all : take l.name-index xs ≡ vs.items = take_all l.name-index xs (omega arith) ∙ c.deref-name-items.ensures.value in
    json_of-Object l.object
    ∙ ap (λ ms. object (members_of ms)) (l.invariant ∙ ap (λ ys. collected bytes_eq (merged_values (members_view ys))) all)
    ∙ ap merged (sym (ap value_view c.in-Object.is ∙ view-Object vs))
