use Rattle.half_store.proofs.Common.{◌++◌, refl, ◌∙◌, ap, Some, None, [], ◌∷◌}
use Rattle.half_store.proofs.lemmas.store.States.{pairs_of-store, replaces_in, vector_view}
use Rattle.half_store.proofs.store.Store.replace_with.Goals as goal

pub returns-in_default-f-clause-replaces : goal.returns-in_default-f-clause-replaces
returns-in_default-f-clause-replaces g c =
    let taken = c.swap_remove-key in
    replaces_in (vector_view c.self.inside.columns c.in_default.is c.self.view_is)
    (record {
      key = taken.result.0;
      value = taken.result.1;
      answer = None;
      pair = taken.ensures.taken;
      answered = record { shown = _; shows = refl; met = c.in_default-f.ensures };
      pairs = pairs_of-store taken.new.self c.self.inside.table ∙ ap (λ cs. cs.pairs) taken.ensures.after;
      removed_is = refl;
    })

pub returns-in_default-clause-replaces : goal.returns-in_default-clause-replaces
returns-in_default-clause-replaces g c =
    let taken = c.swap_remove-key in
    let value = c.in-Some-f.value in
    replaces_in (vector_view c.self.inside.columns c.in_default.is c.self.view_is)
    (record {
      key = taken.result.0;
      value = taken.result.1;
      answer = Some value;
      pair = taken.ensures.taken;
      answered = record { shown = _; shows = refl; met = c.in-Some-f.ensures };
      pairs = pairs_of-store c.push.new.self c.self.inside.table ∙ ap (λ cs. cs.pairs) c.push.ensures
          ∙ ap (λ cs. cs.pairs ++ (taken.result.0, value) ∷ []) taken.ensures.after;
      removed_is = refl;
    })
