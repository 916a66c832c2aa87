use Rattle.half_store.proofs.Common.{◌≡◌, length, ◌-◌, slots_from, distance_from_home, looked_more}
use Rattle.half_store.proofs.lemmas.table.Slots.{Probes}
use Rattle.half_store.proofs.table.probe.first_empty.Given as goal

-- full buckets were passed, and each of them was counted
abbrev pub invariant-loop-bucket : goal.invariant-loop-bucket
invariant-loop-bucket g l =
    let slots = slots_from l.hashes (g.B.Words.words l.buckets) in
    record {
      probe : Probes slots l.hash l.bucket;
      counted : l.tally ≡ looked_more (distance_from_home slots l.hash l.bucket) l.initial.tally;
    }

-- the buckets still to be read: fewer at each step
abbrev pub decreases-loop-bucket : goal.decreases-loop-bucket
decreases-loop-bucket g l =
    let slots = slots_from l.hashes (g.B.Words.words l.buckets) in
    length slots - distance_from_home slots l.hash l.bucket
