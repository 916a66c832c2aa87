use Rattle.halfbrown.proofs.Common.{refl, ap, ◌∙◌, values_of}
use Rattle.halfbrown.proofs.lemmas.map.Iter.{kept_written, lent_values}
use Rattle.halfbrown.proofs.map.LimitedHashMap.values_slice_mut.Goals as goal

pub invariant_of-self-lent : goal.invariant_of-self-lent
invariant_of-self-lent g c = kept_written _ _ _ _ c.self.invariant

pub returns : goal.returns
returns g c =
    let lent = lent_values _ _ _ c.self.inside.store c.self.inside.builder _ c.self.view_is c.self.invariant
    c.columns_mut-values.ensures.small in (
      (refl, lent.back),
      record {
        writes_back = tt;
        values = c.columns_mut-values.ensures.values ∙ ap values_of lent.pairs;
        keeps = lent.keeps;
      },
    )
