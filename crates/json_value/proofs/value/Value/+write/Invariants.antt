use Rattle.json_value.proofs.Common.{◌≡◌, ◌≤◌, ◌++◌, map, take, flat_map, pairs_left, items_depth, members_depth, items_of}
use Rattle.json_value.proofs.Common.{json_of}
use Rattle.json_value.proofs.Reading.{seen}
use Rattle.json_value.proofs.Writing.{member_tokens, shown, value_tokens}
use Rattle.json_value.proofs.value.Value.+write.Given as goal
use Rattle.json_value.specs.Json.{members_of}

abbrev pub invariant-loop-item : goal.invariant-loop-item
invariant-loop-item l =
    let written = take l.item-index l.item-items in
    (l.writer.tokens ≡ l.initial.writer.tokens ++ flat_map value_tokens written)
    × (l.writer.before ≡ l.initial.writer.before) × (items_depth (items_of (map json_of written)) ≤ l.inner)

abbrev pub invariant-loop-name : goal.invariant-loop-name
invariant-loop-name l =
    let written = shown l.yielded in
    goal.iterator-loop-name.can_next l.name-iterator × goal.iterator-loop-name.is_finite l.name-iterator
    × (l.writer.tokens ≡ l.initial.writer.tokens ++ flat_map member_tokens written)
    × (l.writer.before ≡ l.initial.writer.before) × (members_depth (members_of (seen written)) ≤ l.inner)
    × (written ++ pairs_left l.name-iterator ≡ pairs_left l.initial.name-iterator)
