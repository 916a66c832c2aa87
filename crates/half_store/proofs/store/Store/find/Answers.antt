use Rattle.half_store.proofs.Common.{ap}
use Rattle.half_store.proofs.lemmas.store.Searches.{vector_accepts, vector_refuses, vector_cost, held, hashed_within}
use Rattle.half_store.proofs.lemmas.store.Searches.{table_accepts, table_refuses, table_cost}
use Rattle.half_store.proofs.lemmas.store.States.{vector_view, table_view, table_over}
use Rattle.half_store.proofs.store.Store.find.Goals as goal

pub returns-in-Some-first_match-clause-found : goal.returns-in-Some-first_match-clause-found
returns-in-Some-first_match-clause-found g c =
    let columns = c.self.inside.columns in
    vector_accepts columns c.keys.ensures.keys (vector_view columns c.in_default.is c.self.view_is) _ c.in-Some-first_match.ensures.first

pub returns-in-None-clause-found : goal.returns-in-None-clause-found
returns-in-None-clause-found g c =
    let columns = c.self.inside.columns in
    vector_refuses columns c.keys.ensures.keys (vector_view columns c.in_default.is c.self.view_is) c.in-None.ensures.first

pub returns-in-Ok-clause-found : goal.returns-in-Ok-clause-found
returns-in-Ok-clause-found g c =
    let columns = c.self.inside.columns in
    table_accepts columns c.keys-2.ensures.keys (table_view columns c.deref.ensures c.in-Some.is c.self.view_is)
    (table_over columns c.deref.ensures c.in-Some.is c.self.invariant) c.in-Ok.ensures

pub returns-in-Err-clause-found : goal.returns-in-Err-clause-found
returns-in-Err-clause-found g c =
    let columns = c.self.inside.columns in
    table_refuses columns c.keys-2.ensures.keys (table_view columns c.deref.ensures c.in-Some.is c.self.view_is) c.in-Err.ensures

pub first_match-requires : goal.first_match-requires
first_match-requires g c =
    let columns = c.self.inside.columns in
    let is = vector_view columns c.in_default.is c.self.view_is in
    λ key index at. c.requires key index (held columns c.keys.ensures.keys (ap (λ s. s.pairs) is) index at)

pub returns-in-Some-first_match-clause-cost : goal.returns-in-Some-first_match-clause-cost
returns-in-Some-first_match-clause-cost g c =
    let columns = c.self.inside.columns in
    vector_cost columns c.keys.ensures.keys (vector_view columns c.in_default.is c.self.view_is) c.in-Some-first_match.ensures.work

pub returns-in-None-clause-cost : goal.returns-in-None-clause-cost
returns-in-None-clause-cost g c =
    let columns = c.self.inside.columns in
    vector_cost columns c.keys.ensures.keys (vector_view columns c.in_default.is c.self.view_is) c.in-None.ensures.work

pub find-requires : goal.find-requires
find-requires g c =
    let columns = c.self.inside.columns in
    let is = table_view columns c.deref.ensures c.in-Some.is c.self.view_is in
    record {
      keys = hashed_within columns c.keys-2.ensures.keys (table_over columns c.deref.ensures c.in-Some.is c.self.invariant);
      callable = λ key index own at. c.requires key index (held columns c.keys-2.ensures.keys (ap (λ s. s.pairs) is) index at);
    }

pub returns-in-Ok-clause-cost : goal.returns-in-Ok-clause-cost
returns-in-Ok-clause-cost g c =
    let columns = c.self.inside.columns in
    table_cost columns (table_view columns c.deref.ensures c.in-Some.is c.self.view_is) c.in-Ok.ensures.cost c.in-Ok.ensures.buckets

pub returns-in-Err-clause-cost : goal.returns-in-Err-clause-cost
returns-in-Err-clause-cost g c =
    let columns = c.self.inside.columns in
    table_cost columns (table_view columns c.deref.ensures c.in-Some.is c.self.view_is) c.in-Err.ensures.cost c.in-Err.ensures.buckets
