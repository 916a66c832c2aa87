use Rattle.halfbrown.specs.ByKey.{CountsEach}
use Rattle.half_uses.proofs.words.count_words.Given as goal
use Rattle.half_uses.specs.Words.{same_word}

abbrev pub invariant-loop-word : goal.invariant-loop-word
invariant-loop-word l = record {
  can : (goal.iterator-loop-word).can_next l.word-iterator;
  ends : (goal.iterator-loop-word).is_finite l.word-iterator;
  seen : CountsEach same_word l.yielded l.counts.pairs;
}
