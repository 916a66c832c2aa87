use Rattle.halfmap.proofs.Common.{Some, Decides-eqb, strip_prefix_is}
use Rattle.halfmap.proofs.Words.{none_then, some_maps, none_maps, no_letters, no_number_behind, number_behind}
use Rattle.halfmap.proofs.request.number_after.Goals as goal

pub returns-in_err-strip_prefix-clause-none : goal.returns-in_err-strip_prefix-clause-none
returns-in_err-strip_prefix-clause-none c = none_then _ (no_letters c.args.letters.now c.args.text.now c.in_err-strip_prefix.ensures.cases)

pub returns-clause-some : goal.returns-clause-some
returns-clause-some c =
    let e = strip_prefix_is Decides-eqb c.args.text.now c.args.letters.now (Some c.in_ok-strip_prefix.field-0)
    c.in_ok-strip_prefix.ensures.cases in
    some_maps c.number.result (number_behind c.args.letters.now c.args.text.now c.in_ok-strip_prefix.field-0.now e) c.number.ensures.some

pub returns-clause-none : goal.returns-clause-none
returns-clause-none c =
    none_maps c.number.result
    (no_number_behind c.args.letters.now c.args.text.now c.in_ok-strip_prefix.field-0.now c.in_ok-strip_prefix.ensures.cases.1)
    c.number.ensures.none
