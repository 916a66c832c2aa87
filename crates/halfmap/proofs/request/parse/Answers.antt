use Rattle.halfmap.proofs.Common.{◌≡◌, ◌++◌, Some, rules, codes, Decides-eqb, strip_prefix_is}
use Rattle.halfmap.proofs.Words.{none_then, no_request}
use Rattle.halfmap.proofs.request.parse.Goals as goal

pub returns-in_err-key-clause-none : goal.returns-in_err-key-clause-none
returns-in_err-key-clause-none c =
    let e : c.args.text.now ≡ codes "i " ++ c.in_ok-strip_prefix.field-0.now =
    strip_prefix_is Decides-eqb c.args.text.now (codes "i ") (Some c.in_ok-strip_prefix.field-0) c.in_ok-strip_prefix.ensures.cases in
    let no_form : ¬ (c.args.text.now ≡ codes "f") = search rules in
    none_then c.from_residual-in_err-key.result
    (no_request c.args.text.now c.in_ok-strip_prefix.field-0.now no_form c.in_default.ensures.none
    c.in_default-number_after.ensures.none e c.in_err-key.ensures.none)
