use Rattle.half_store.proofs.Common.{length, ◌-◌, slice_index, false, FnReturnsAt, ReturnsAt, slots_from, distance_from_home}
use Rattle.half_store.proofs.lemmas.table.Probe.{SearchedTo}
use Rattle.half_store.proofs.table.probe.probe_for.Given as goal

-- full buckets were passed, and each pair of the hash among them refused
abbrev pub invariant-loop-full : goal.invariant-loop-full
invariant-loop-full g l =
    SearchedTo (slots_from l.hashes (g.B.Words.words l.buckets)) l.hash
    (λ bucket. ReturnsAt (FnReturnsAt g.F.Fn l.matches) l.keys (slice_index (g.B.Words.words l.buckets) bucket - 1) false)
    l.bucket l.initial.tally l.tally

-- the buckets still to be read: fewer at each step
abbrev pub decreases-loop-full : goal.decreases-loop-full
decreases-loop-full g l =
    let slots = slots_from l.hashes (g.B.Words.words l.buckets) in
    length slots - distance_from_home slots l.hash l.bucket
