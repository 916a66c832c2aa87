use Rattle.halfbrown.proofs.Common.{ap, ◌∙◌, sym, values_of}
use Rattle.halfbrown.proofs.lemmas.map.Iter.{values_lend_in_order, kept_written, lent_values}
use Rattle.halfbrown.proofs.map.LimitedHashMap.values_mut.Goals as goal

pub invariant_of-self-lent : goal.invariant_of-self-lent
invariant_of-self-lent g c = kept_written _ _ _ _ c.self.invariant

pub returns : goal.returns
returns g c =
    let lent = lent_values _ _ _ c.self.inside.store c.self.inside.builder _ c.self.view_is c.self.invariant
    c.columns_mut-values.ensures.small in (
      (sym c.iter_mut.ensures.iter_mut_name, lent.back),
      record {
        writes_back = tt;
        left = c.iter_mut.ensures.rest ∙ c.columns_mut-values.ensures.values ∙ ap values_of lent.pairs;
        runs = values_lend_in_order;
        keeps = lent.keeps;
      },
    )
