use Rattle.json_value.proofs.Common.{◌≡◌, ◌↔◌, Some, drop, name_of}
use Rattle.json_value.proofs.value.pointer.stands_for.Given as goal

abbrev pub invariant-loop-byte : goal.invariant-loop-byte
invariant-loop-byte l = (name_of l.step ≡ Some l.name) ↔ (name_of l.rest ≡ Some (drop l.byte-index l.name))
