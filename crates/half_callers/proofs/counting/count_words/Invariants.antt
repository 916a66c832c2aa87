use Rattle.std.proofs.Common.{take}
use Rattle.halfbrown.specs.ByKey.{CountsEach}
use Rattle.half_callers.proofs.counting.count_words.Given as goal

abbrev pub invariant-loop-word : goal.invariant-loop-word
invariant-loop-word g l = CountsEach g.K.PartialEq.eq (take l.word-index l.words) l.counts.pairs
