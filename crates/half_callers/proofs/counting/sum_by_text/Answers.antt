use Rattle.std.proofs.Common.{ℕ, List, [], arith, rules}
use Rattle.std.proofs.lemmas.Grind.{common_steps}
use Rattle.std.specs.Borrow.{Bor}
use Rattle.std.specs.String.{string_bytes}
use Rattle.halfbrown.proofs.callers.Texts.{sum_text_fits, summed_text_step}
use Rattle.half_callers.proofs.counting.sum_by_text.Goals as goal

-- the row that is read past the last
abbrev any_row : Bor (List ℕ) × ℕ
any_row = (record { ref_ptr = (0, 0); now = [] }, 0)

pub returns-in_default-clause-fits : goal.returns-in_default-clause-fits
returns-in_default-clause-fits c fits =
    let name = c.in_ok-from_str.field-0 in
    let all = sum_text_fits (λ row. (row.0.now, row.1)) c.args.rows.now c.loop-name.name-index any_row _ name c.loop-name.invariant in
    grind (arith, common_steps, fits (string_bytes name), all)

pub loop-name-preserved : goal.loop-name-preserved
loop-name-preserved c =
    let puts = c.in_ok-sums.ensures.makes.writes.puts c.in-Some.more in
    search (rules, summed_text_step _ _ _ any_row c.loop-name.invariant puts)
