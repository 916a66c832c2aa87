use Rattle.half_store.proofs.lemmas.vecmap.Columns.{pair_read}
use Rattle.half_store.proofs.vecmap.Columns.swap_remove.Goals as goal
use Rattle.half_store.proofs.Common.{arith}
use Rattle.half_store.proofs.lemmas.vecmap.Columns.{columns_steps}

pub returns-clause-taken : goal.returns-clause-taken
returns-clause-taken g c = grind (arith, columns_steps, pair_read)
