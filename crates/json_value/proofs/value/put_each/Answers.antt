use Rattle.json_value.proofs.Common.{◌≡◌, refl, sym, ap, ◌∙◌, ◌++◌, ◌∷◌, [], rules, append_assoc, map-id, string_eq, put_all}
use Rattle.std.proofs.lemmas.Map.Iter.{iter_end, rest_so_far}
use Rattle.halfbrown.proofs.lemmas.map.Collect.{inserts_pairs}
use Rattle.json_value.proofs.Merging.{err_also}
use Rattle.json_value.proofs.value.put_each.Goals as goal

pub returns : goal.returns
returns c =
    let e = c.in_ok-extend.ensures.extended in
    let drained = e.drained in
    let all = sym (map-id e.gave)
    ∙ (iter_end (λ p. p) c.args.others.pairs e.gave e.iterator drained.1.0 drained.0 _ e.from_items.0 drained.1.1 refl drained.1.2).0 in
    record { after = e.extends.pairs ∙ ap (put_all string_eq _) all; refused = tt }

pub returns-in_err-extend-clause-refused : goal.returns-in_err-extend-clause-refused
returns-in_err-extend-clause-refused c =
    let e = c.in_err-extend.ensures.refused in
    let r = e.insertion in
    let given = r.were_given in
    let all : c.args.others.pairs ≡ r.before ++ (r.key, r.value) ∷ given.0 =
    sym e.from_items.0 ∙ rest_so_far (λ p. p) _ e.iterator given.0 given.1 ∙ ap (λ ps. ps ++ given.0) (map-id _)
    ∙ append_assoc r.before ((r.key, r.value) ∷ []) given.0 in
    err_also _ _ c.from_residual.result (search rules)
    (r.before, given.0, (r.key, r.value), all, inserts_pairs _ _ c.args.members.now c.extend.new.self r.before r.inserted)
