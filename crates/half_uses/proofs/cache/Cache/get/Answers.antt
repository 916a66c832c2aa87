use Rattle.std.proofs.Common.{ℕ, ◌∙◌, subst}
use Rattle.std.specs.List.{fold}
use Rattle.std.specs.Map.{keys_of}
use Rattle.halfbrown.specs.Costs.{IsSearchCost}
use Rattle.halfbrown.specs.Pairs.{index_of}
use Rattle.halfbrown.specs.State.{State}
use Rattle.half_uses.proofs.cache.Cache.get.Goals as goal

pub returns-clause-cost : goal.returns-clause-cost
returns-clause-cost g c =
    let hash : g.row.S.Denot → g.row.K.Denot → ℕ = λ s k.
    g.S.Hasher.Hasher.finish (fold g.S.Hasher.Hasher.write (g.S.BuildHasher.build_hasher s) (g.K.Hash.hash_input k)) in
    let key = c.args.key.now.key in
    subst (λ (m : State g.row.K.Denot g.row.V.Denot g.row.S.Denot). IsSearchCost hash (hash m.builder key) m
    (index_of (g.K.PartialEq.eq key) (keys_of m.pairs)) 0 c.args.tally.now c.from_key_hashed_nocheck_counted.new.tally) (c.raw_entry.ensures ∙ c.self.view_is)
    c.from_key_hashed_nocheck_counted.ensures.cost
