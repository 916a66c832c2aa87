use Rattle.std.proofs.Common.{◌+◌, [], arith, rules}
use Rattle.std.proofs.lemmas.Grind.{common_steps}
use Rattle.halfbrown.proofs.callers.Texts.{count_text_fits, counted_text_step}
use Rattle.half_callers.proofs.counting.count_texts.Goals as goal

pub overflow_add-counts : goal.overflow_add-counts
overflow_add-counts c = grind (arith, common_steps, count_text_fits (λ word. word.now) _ _ c.loop-word.invariant c.in_ok-from_str.field-0)

pub loop-word-preserved : goal.loop-word-preserved
loop-word-preserved c =
    let puts = c.in_ok-counts.ensures.makes.writes.puts (c.or_insert.result.now + 1) in
    search (rules, counted_text_step (λ word. word.now) _ _ (record { ref_ptr = (0, 0); now = [] }) c.loop-word.invariant puts)
