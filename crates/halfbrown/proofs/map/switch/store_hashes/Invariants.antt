-- The hashes of the keys so far are stored, and the builder was called once for each.
use Rattle.halfbrown.proofs.Common.{◌≡◌, take, map}
use Rattle.half_store.specs.Work.{asked_more}
use Rattle.halfbrown.proofs.map.switch.store_hashes.Given as goal

abbrev pub invariant-loop-key : goal.invariant-loop-key
invariant-loop-key g l = record {
  hashes : l.table.hashes ≡ map (g.S.KeyHasher.hash l.builder) (take l.key-index l.keys);
  buckets : l.table.buckets ≡ l.initial.table.buckets;
  work : l.tally ≡ asked_more l.key-index l.initial.tally;
}
