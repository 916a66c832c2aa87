use Rattle.halfbrown.proofs.Common.{◌∙◌, sym, subst, inl, map_with_pairs}
use Rattle.halfbrown.specs.Updates.{HasSetBy}
use Rattle.halfbrown.proofs.lemmas.pairs.SetBy.{has_set_by}
use Rattle.halfbrown.proofs.map.LimitedHashMap.get_mut_counted.Goals as goal

pub returns-in-Ok : goal.returns-in-Ok
returns-in-Ok g c = (
  λ i. inl (c.pair_at_mut.result.1.ghost_name, λ w. map_with_pairs c.args.self.now (sym (c.in-Ok.ensures.found.0.set_is w) i)),
  record {
    writes_back = tt;
    once_written = λ w. subst (HasSetBy g.K.PartialEq.eq (g.Q.Equivalent.equivalent c.args.key) c.args.self.now.pairs w)
        (sym (c.in-Ok.ensures.found.0.set_is w))
        (has_set_by g.K.PartialEq.eq g.met.K.Eq.laws (g.Q.Equivalent.equivalent c.args.key)
        (g.met.Q.Equivalent.stands_for_equals c.args.key) c.args.self.now.pairs c.in-Ok.found.index w c.in-Ok.ensures.found.0);
    value = sym c.pair_at_mut.ensures.value ∙ sym c.in-Ok.ensures.found.0.value;
    cost = c.in-Ok.ensures.cost;
    valid = c.in-Ok.ensures.valid;
  },
)
