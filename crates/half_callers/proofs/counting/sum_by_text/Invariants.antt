use Rattle.std.proofs.Common.{map, take}
use Rattle.std.specs.Str.{bytes_eq}
use Rattle.std.specs.String.{string_bytes}
use Rattle.halfbrown.specs.ByKey.{SumsEach, keyed_by}
use Rattle.half_callers.proofs.counting.sum_by_text.Given as goal

abbrev pub invariant-loop-name : goal.invariant-loop-name
invariant-loop-name l =
    SumsEach bytes_eq (map (λ row. (row.0.now, row.1)) (take l.name-index l.rows)) (keyed_by string_bytes l.sums.pairs)
