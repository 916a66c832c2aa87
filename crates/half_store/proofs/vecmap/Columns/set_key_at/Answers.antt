use Rattle.half_store.proofs.Common.{arith}
use Rattle.half_store.proofs.vecmap.Columns.set_key_at.Goals as goal
use Rattle.half_store.proofs.lemmas.vecmap.Columns.{columns_steps}

pub index_mut-requires : goal.index_mut-requires
index_mut-requires g c = grind (arith, columns_steps)

pub returns-clause-old : goal.returns-clause-old
returns-clause-old g c = grind (arith, columns_steps)

pub returns-clause-after : goal.returns-clause-after
returns-clause-after g c = grind (arith, columns_steps)
