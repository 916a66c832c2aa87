use Rattle.half_laws.proofs.lemmas.probes.{crowding_law, stops_law}
use Rattle.half_laws.proofs.probes.crowding_of_a_probe.Goals as goal

pub returns : goal.returns
returns c = record { stops = stops_law; crowded = crowding_law }
