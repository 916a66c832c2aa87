use Rattle.json_value.proofs.Common.{sym, ◌∙◌, arith, true≢false, contains_char}
use Rattle.json_value.proofs.Pointer.{name_of-plain}
use Rattle.json_value.proofs.value.pointer.member_place.Goals as goal

pub returns-then-not-contains : goal.returns-then-not-contains
returns-then-not-contains c =
    let step = c.args.step.now in
    let found = contains_char 126 step c.contains.result c.contains.ensures.cases (omega arith) in
    rw (name_of-plain step (λ i less e. true≢false (sym (found.1 i less e) ∙ c.if-not-contains.true))) c.get_index_of.ensures.index
