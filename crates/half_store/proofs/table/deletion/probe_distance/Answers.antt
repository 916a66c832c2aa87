use Rattle.half_store.proofs.Common.{arith}
use Rattle.half_store.proofs.lemmas.table.Mask.{mask_distance, count-le_half}
use Rattle.half_store.proofs.table.deletion.probe_distance.Goals as goal

pub overflow_add-result : goal.overflow_add-result
overflow_add-result c =
    omega (arith, count-le_half c.args.count c.requires.count (omega arith), c.requires.from_within, c.requires.to_within)

pub returns : goal.returns
returns c = mask_distance c.args.count c.args.from c.args.to c.requires.count c.requires.from_within c.requires.to_within
