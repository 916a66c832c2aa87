use Rattle.json_value.proofs.Common.{inl, inr, sym, ◌∙◌, true≢false, arith}
use Rattle.json_value.proofs.Pointer.{index_of-plus, index_of-zero, index_of-parsed}
use Rattle.json_value.proofs.value.pointer.index.Goals as goal
use Rattle.json_value.proofs.value.pointer.index.Goals.{then-starts_with-via-then-starts_with, then-starts_with-via-else-starts_with+then-step-gt1}

pub returns-then-starts_with : goal.returns-then-starts_with
returns-then-starts_with c =
    let step = c.args.step.now in
    elim c.then-starts_with.branch [
      | then-starts_with-via-then-starts_with w ↦
          let plus = c.starts_with.ensures.byte (omega arith) (omega arith) (λ _ _ prefix. prefix) in
          sym (index_of-plus step (sym plus ∙ w.if-starts_with.true))
      | then-starts_with-via-else-starts_with+then-step-gt1 w ↦
          let zero = w.starts_with-else-starts_with.ensures.byte (omega arith) (omega arith) (λ _ _ prefix. prefix) in
          sym (index_of-zero step (sym zero ∙ w.if-step-gt1.true.0) w.if-step-gt1.true.1)
    ]

pub returns : goal.returns
returns c =
    let step = c.args.step.now in
    let plus = c.starts_with.ensures.byte (omega arith) (omega arith) (λ _ _ prefix. prefix) in
    let zero = c.starts_with-else-starts_with.ensures.byte (omega arith) (omega arith) (λ _ _ prefix. prefix) in
    c.ok.ensures.value
    ∙ index_of-parsed step c.parse.result c.parse.ensures.value.0 (sym plus ∙ c.if-starts_with.false)
    (λ first. elim c.if-step-gt1.either [ inl both ↦ both.1 | inr other ↦ absurd (true≢false (sym first ∙ sym zero ∙ other)) ])
