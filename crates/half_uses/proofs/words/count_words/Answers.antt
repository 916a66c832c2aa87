use Rattle.std.proofs.Common.{length, unwrap_or, ◌+◌, ◌<◌, ◌^◌, ap, ◌∙◌, arith, rules}
use Rattle.std.proofs.lemmas.Grind.{common_steps}
use Rattle.std.specs.Str.Iter.{split_whitespace_rest}
use Rattle.halfbrown.proofs.callers.Keys.{count_fits, counted_more}
use Rattle.halfbrown.specs.Pairs.{value_of}
use Rattle.half_uses.proofs.TextWords.{same_word_laws, nonempty_before_word, words_between}
use Rattle.half_uses.proofs.words.count_words.Goals as goal
use Rattle.half_uses.specs.Words.{same_word}

pub overflow_add-counts : goal.overflow_add-counts
overflow_add-counts c =
    let whole = ap split_whitespace_rest c.into_iter-word-iterator.ensures.into_iter_gives ∙ c.split_whitespace-word-items.ensures.rest in
    let fits : unwrap_or (value_of same_word c.loop-word.counts.pairs c.in-Some.word) 0 + 1 < 2 ^ 64 = omega (
      arith,
      count_fits same_word_laws c.loop-word.invariant.seen c.in-Some.word,
      words_between c.into_iter-word-iterator.result c.loop-word.word-iterator c.loop-word.yielded c.loop-word.yielded_by,
      nonempty_before_word c.loop-word.word-iterator c.next.new.self c.in-Some.word c.in-Some.ensures.steps,
      ap length whole,
    ) in
    grind (arith, common_steps, fits)

pub loop-word-preserved : goal.loop-word-preserved
loop-word-preserved c =
    let put = c.in_ok-counts.ensures.makes.writes.put (c.or_insert.result.now + 1) in
    search (rules, counted_more same_word_laws c.loop-word.yielded c.loop-word.invariant.seen put)
