use Rattle.std.proofs.Common.{refl}
use Rattle.half_store.specs.Reach.{probe_distance, bucket_after, load, loaded_within, loaded_run, reach}
use Rattle.half_store.specs.Capacity.{least_buckets}
use Rattle.half_callers.proofs.worked.an_insertion_that_grows.Goals as goal

pub returns : goal.returns
unfolding probe_distance bucket_after load loaded_within loaded_run reach least_buckets
returns c any = refl
