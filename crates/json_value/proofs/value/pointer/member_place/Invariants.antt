use Rattle.json_value.proofs.Common.{◌≡◌, ◌+◌, length, option_and_then, keys_of, pairs_left, is_named, name_of, member_place}
use Rattle.std.proofs.Common.{option_map}
use Rattle.halfbrown.specs.Pairs.{index_of as first_index}
use Rattle.json_value.proofs.value.pointer.member_place.Given as goal

abbrev pub invariant-loop-name : goal.invariant-loop-name
invariant-loop-name l =
    (member_place l.fn.members.pairs l.step
    ≡ option_and_then (λ name. option_map (λ n. n + l.index) (first_index (is_named name) (keys_of (pairs_left l.name-iterator)))) (name_of l.step))
    × (l.index + length (pairs_left l.name-iterator) ≡ length l.fn.members.pairs)
