use Rattle.json_value.proofs.Common.{◌≡◌, map, take, bytes_eq, collected, members_view, json_of, merged_values}
use Rattle.json_value.proofs.Reading.{merged_view, seen}
use Rattle.json_value.proofs.value.read.+owned.Given as goal

abbrev pub invariant-loop-item : goal.invariant-loop-item
invariant-loop-item l = map json_of l.list.items ≡ map merged_view (take l.item-index l.item-items)

abbrev pub invariant-loop-name : goal.invariant-loop-name
invariant-loop-name l = seen l.object.pairs ≡ collected bytes_eq (merged_values (members_view (take l.name-index l.name-items)))
