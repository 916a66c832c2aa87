use Rattle.halfbrown.proofs.Common.{arith, subst, inl, inr, common_steps, TallyGrewBy, Gives}
use Rattle.std.specs.Iterator.{Drains}
use Rattle.halfbrown.specs.Collect.{InsertRefused, refused_cost}
use Rattle.halfbrown.proofs.lemmas.map.Collect.{at_error, collection_of, inserts_asked, inserts_state, made_with}
use Rattle.halfbrown.proofs.lemmas.map.Costs.{spent_none}
use Rattle.halfbrown.proofs.map.LimitedHashMap.collect.Goals as goal

pub returns-in_err-map-clause-refused : goal.returns-in_err-map-clause-refused
returns-in_err-map-clause-refused g c =
    (at_error c.from_residual.result c.in_err-map.field-0.0 (Unit {0}) _ c.from_residual.ensures
    (inl c.in_err-map.ensures.makes.refused, spent_none c.args.tally.now)).1

pub returns-in_err-extend_counted-clause-refused : goal.returns-in_err-extend_counted-clause-refused
returns-in_err-extend_counted-clause-refused g c =
    let L = g.L.Limit.LIMIT in
    let E = g.K.PartialEq.eq in
    let H = g.S.KeyHasher.hash in
    let why = c.in_err-extend_counted.field-0.0 in
    let made = c.in_ok-map.map in
    let after = c.extend_counted.new.self in
    let before = c.args.tally.now in
    let refused = c.in_err-extend_counted.ensures.refused in
    let is_made = made_with g.S.Default.is_default c.default.ensures c.in_ok-map.ensures.makes.empty in
    let given = Gives g.I.Iterator.next_gives in
    let counted = subst (λ it. (insertion : InsertRefused L E (given it) made why after)
    × TallyGrewBy (refused_cost L E H insertion) before c.extend_counted.new.tally)
    refused.0.from_items (refused.0.insertion, refused.1) in
    (at_error c.from_residual-in_err-extend_counted.result why (Unit {0}) _ c.from_residual-in_err-extend_counted.ensures
    (inr (record { made = made; is_made = is_made; reached = after; insertion = counted.0 }), counted.1)).1

pub returns-clause-collected : goal.returns-clause-collected
returns-clause-collected g c =
    let L = g.L.Limit.LIMIT in
    let E = g.K.PartialEq.eq in
    let made = c.in_ok-map.map in
    let is_made = made_with g.S.Default.is_default c.default.ensures c.in_ok-map.ensures.makes.empty in
    let all = c.in_ok-extend_counted.ensures.extended in (
      all.0.gave,
      subst (λ it. Drains g.I.Iterator.next_gives it all.0.gave) all.0.from_items all.0.drained,
      collection_of L E g.met.K.Eq.laws g.S.Default.is_default c.args.capacity made c.extend_counted.new.self all.0.gave is_made
          all.0.extends.inserted,
      all.1,
    )

pub returns-clause-nothing_hashed : goal.returns-clause-nothing_hashed
returns-clause-nothing_hashed g c form = grind (arith, common_steps, inserts_asked)

pub returns-clause-valid : goal.returns-clause-valid
returns-clause-valid g c = grind (arith, common_steps, inserts_state)
