use Rattle.half_store.proofs.Common.{◌≡◌, ◌≤◌, ℕ, map}
use Rattle.std.specs.Map.Calls.{CalledAtPair, TakesPair}
use Rattle.std_collections.proofs.RetainLoop.{Sifting}
use Rattle.half_store.proofs.vecmap.retain.retain_in_columns.Given as goal

-- the pairs before this index were asked of, and those that stay are the first; their hashes moved with them
abbrev pub invariant-loop-index : goal.invariant-loop-index
invariant-loop-index g l = record {
  within : l.kept ≤ l.index;
  sifted : Sifting (CalledAtPair g.F.FnMut) (TakesPair g.F.FnMut) l.initial.f l.initial.keys l.initial.values
      l.f l.keys l.values l.kept l.index;
  hashes : (hash : g.row.K.Denot → ℕ) → l.initial.hashes ≡ map hash l.initial.keys → l.hashes ≡ map hash l.keys;
  same : l.kept ≡ l.index → l.hashes ≡ l.initial.hashes;
}
