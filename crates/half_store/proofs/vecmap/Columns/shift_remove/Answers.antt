use Rattle.half_store.proofs.Common.{arith}
use Rattle.half_store.proofs.lemmas.vecmap.Columns.{pair_read, columns_steps}
use Rattle.half_store.proofs.lemmas.vecmap.Zip.{zip-remove}
use Rattle.half_store.proofs.vecmap.Columns.shift_remove.Goals as goal

pub remove-requires : goal.remove-requires
remove-requires g c = grind (arith, columns_steps)

pub returns : goal.returns
returns g c = grind (arith, columns_steps, pair_read, zip-remove)
