use Rattle.half_store.proofs.lemmas.capacity.{capacity_for-capacity_of}
use Rattle.half_store.proofs.lemmas.table.Layout.{count_seen, buckets_seen}
use Rattle.half_store.proofs.table.Table.capacity.Goals as goal
use Rattle.half_store.proofs.Common.{arith, common_steps}

pub returns-clause-series : goal.returns-clause-series
returns-clause-series c = grind (arith, common_steps, capacity_for-capacity_of)

pub returns-clause-buckets : goal.returns-clause-buckets
returns-clause-buckets c = grind (arith, common_steps, buckets_seen, count_seen)
