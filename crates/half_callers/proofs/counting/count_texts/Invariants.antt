use Rattle.std.proofs.Common.{map, take}
use Rattle.std.specs.Str.{bytes_eq}
use Rattle.std.specs.String.{string_bytes}
use Rattle.halfbrown.specs.ByKey.{CountsEach, keyed_by}
use Rattle.half_callers.proofs.counting.count_texts.Given as goal

abbrev pub invariant-loop-word : goal.invariant-loop-word
invariant-loop-word l = CountsEach bytes_eq (map (λ word. word.now) (take l.word-index l.words)) (keyed_by string_bytes l.counts.pairs)
