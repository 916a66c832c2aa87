use Rattle.std.proofs.Common.{refl}
use Rattle.half_store.specs.Reach.{probe_distance, bucket_after, load, loaded_within, loaded_run, reach}
use Rattle.half_callers.proofs.worked.by_a_match.Goals as goal

pub returns : goal.returns
unfolding probe_distance bucket_after load loaded_within loaded_run reach
returns c = record { of_0 = refl; of_5 = refl }
