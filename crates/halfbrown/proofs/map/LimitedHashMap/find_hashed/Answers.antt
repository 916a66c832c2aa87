use Rattle.halfbrown.proofs.Common.{◌≡◌, false, ap, ◌∙◌, sym, subst, found_index, IsSearchCost, state_in, KeySearch, State, IsValid}
use Rattle.halfbrown.specs.Costs.{IsLookupCostByHash}
use Rattle.halfbrown.proofs.lemmas.map.Find.{costs_for_other, found_is_index, looks_up, match_costs, matches_of}
use Rattle.halfbrown.proofs.lemmas.map.Layout.{state_of}
use Rattle.halfbrown.proofs.map.LimitedHashMap.find_hashed.Goals as goal

pub returns : goal.returns
returns g c =
    let store = c.self.inside.store in
    let builder = c.self.inside.builder in
    let was : State g.row.K.Denot g.row.V.Denot g.row.S.Denot = state_in store builder in
    let test = g.Q.Equivalent.equivalent c.args.key in
    let hashing = g.S.KeyHasher.hash in
    let own = g.S.KeyHasher.hash_writes builder (g.Q.Hash.hash_input c.args.key) in
    let told = c.find.ensures in
    let known : was.is_vec ≡ false → c.args.hash ≡ own =
    λ table. c.requires.known (ap (λ m. m.is_vec) (sym c.self.view_is) ∙ table)
    ∙ ap (λ s. g.S.KeyHasher.hash_writes s (g.Q.Hash.hash_input c.args.key)) (ap (λ m. m.builder) (sym c.self.view_is)) in
    let found : KeySearch test own was c.find.result = looks_up test _ (λ k answer returned. returned.says.met ∙ ap test returned.shows)
    g.K.PartialEq.eq (g.met.Q.Equivalent.stands_for_equals c.args.key) hashing c.args.hash was c.self.invariant.distinct own known
    (λ k passes. g.met.S.KeyHasher.hash_is builder k
    ∙ ap (g.S.KeyHasher.hash_writes builder) (sym (g.met.Q.Equivalent.hashes_alike c.args.key k passes)))
    c.find.result (matches_of hashing c.args.hash store builder c.self.invariant.hashed _ c.find.result told.found) in
    let spent = match_costs hashing c.args.hash store builder c.self.invariant.hashed _ _ _ _ told.cost in
    record {
      found = subst (λ (m : State g.row.K.Denot g.row.V.Denot g.row.S.Denot). KeySearch test
          (g.S.KeyHasher.hash_writes m.builder (g.Q.Hash.hash_input c.args.key)) m c.find.result) c.self.view_is found;
      cost = subst (λ (m : State g.row.K.Denot g.row.V.Denot g.row.S.Denot). IsLookupCostByHash g.S.KeyHasher g.Q.Hash.hash_input
          g.Q.Equivalent.equivalent c.args.key m c.args.tally.now c.find.new.tally) c.self.view_is
          (subst (λ index. IsSearchCost hashing own was index 0 c.args.tally.now c.find.new.tally)
          (found_is_index test own was c.find.result found)
          (costs_for_other hashing c.args.hash own was c.args.tally.now c.find.new.tally (found_index c.find.result) known spent));
      valid = subst (IsValid g.L.Limit.LIMIT g.K.PartialEq.eq) c.self.view_is (state_of _ _ _ _ _ c.self.invariant);
    }
