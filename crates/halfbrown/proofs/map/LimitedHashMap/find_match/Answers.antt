use Rattle.halfbrown.proofs.Common.{arith, subst, common_steps, found_index, IsSearchCost, State}
use Rattle.halfbrown.proofs.lemmas.map.Find.{match_costs, matches_of}
use Rattle.halfbrown.proofs.map.LimitedHashMap.find_match.Goals as goal

pub returns-clause-found : goal.returns-clause-found
returns-clause-found g c = grind (arith, common_steps, matches_of)

pub returns-clause-cost : goal.returns-clause-cost
returns-clause-cost g c =
    let hashing = g.S.KeyHasher.hash in
    subst (λ (m : State g.row.K.Denot g.row.V.Denot g.row.S.Denot). IsSearchCost hashing c.args.hash m (found_index c.find.result) 0
    c.args.tally.now c.find.new.tally) c.self.view_is
    (match_costs hashing c.args.hash c.self.inside.store c.self.inside.builder c.self.invariant.hashed _ _ _ _ c.find.ensures.cost)
