use Rattle.json_value.proofs.Common.{◌≡◌, ◌==◌, None, option_and_then, sym, ap, ◌∙◌, arith, strip_prefix_char, slice_split}
use Rattle.json_value.proofs.Common.{descendant, value_at}
use Rattle.std.proofs.lemmas.Iterator.Splits.{YieldsList-from_str_split}
use Rattle.json_value.proofs.Pointer.{value_at-no_slash, descendant-step, descendant-end}
use Rattle.json_value.proofs.value.Value.pointer.Goals as goal

pub returns-in_err-strip_prefix : goal.returns-in_err-strip_prefix
returns-in_err-strip_prefix c =
    let path = c.args.path.now in
    let gone : c.from_residual.result ≡ None = grind arith in
    let cut = strip_prefix_char 47 path c.strip_prefix.result c.strip_prefix.ensures.cases (omega arith) in
    let other = rw c.in_err-strip_prefix.was at cut in
    rw gone (sym (value_at-no_slash c.args.self.now path (grind arith) other))

pub loop-step-init : goal.loop-step-init
loop-step-init c =
    let path = c.args.path.now in
    let rest = c.in_ok-strip_prefix.field-0.now in
    let cut = strip_prefix_char 47 path c.strip_prefix.result c.strip_prefix.ensures.cases (omega arith) in
    let begins = rw c.in_ok-strip_prefix.was at cut in
    let split = c.split-step-items.ensures in (
      slice_split (λ b. b == 47) rest,
      rw c.into_iter-step-iterator.ensures.into_iter_gives
          (YieldsList-from_str_split 47 rest (omega arith) split.text split.has_more split.pattern).runs,
      ap (value_at c.args.self.now) begins,
    )

pub returns-in_err-value : goal.returns-in_err-value
returns-in_err-value c =
    let l = c.loop-step in
    let gone : c.from_residual-in_err-value.result ≡ None = grind arith in
    let left = l.invariant.1 in
    let on = descendant-step l.value.now l.invariant.0 l.step-iterator c.next.new.self c.in-Some.step left c.in-Some.ensures.steps in
    rw gone (sym (l.invariant.2 ∙ on.2 ∙ ap (option_and_then (λ w. descendant w on.0)) (sym c.in_err-value.ensures)))

pub loop-step-preserved : goal.loop-step-preserved
loop-step-preserved c =
    let l = c.loop-step in
    let left = l.invariant.1 in
    let on = descendant-step l.value.now l.invariant.0 l.step-iterator c.next.new.self c.in-Some.step left c.in-Some.ensures.steps in
    (on.0, on.1, l.invariant.2 ∙ on.2 ∙ ap (option_and_then (λ w. descendant w on.0)) (sym c.in_ok-value.ensures))

pub returns : goal.returns
returns c =
    let l = c.loop-step in
    sym (l.invariant.2 ∙ descendant-end l.value.now l.invariant.0 l.step-iterator c.next.new.self l.invariant.1 c.in-None.ensures.steps)
