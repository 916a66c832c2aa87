use Rattle.std.proofs.Common.{refl, sym, ◌∙◌}
use Rattle.std.proofs.lemmas.List.{map-id}
use Rattle.std.proofs.lemmas.Map.Iter.{iter_end}
use Rattle.halfbrown.proofs.callers.Keys.{last_is_value}
use Rattle.half_callers.proofs.collections.merge.Goals as goal

pub returns-clause-keys : goal.returns-clause-keys
returns-clause-keys g c =
    let e = c.in_ok-extend.ensures.extended in
    rw (← (iter_end (λ p. p) c.args.other.pairs e.gave e.iterator e.drained.1.0 e.drained.0 _ e.from_items.0 e.drained.1.1 refl e.drained.1.2).0, map-id e.gave) e.extends.keys

pub returns-clause-values : goal.returns-clause-values
returns-clause-values g c key =
    let e = c.in_ok-extend.ensures.extended in
    let all = sym (map-id e.gave) ∙ (iter_end (λ p. p) c.args.other.pairs e.gave e.iterator e.drained.1.0 e.drained.0 _ e.from_items.0 e.drained.1.1 refl e.drained.1.2).0 in
    rw (e.extends.values key, all, last_is_value g.met.K.Eq.laws c.args.other.pairs e.from_items.4.distinct key)
