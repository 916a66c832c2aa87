use Rattle.halfbrown.proofs.Common.{◌∙◌, sym, zip}
use Rattle.halfbrown.proofs.lemmas.map.Iter.{lends_values_in_order, kept_written, lent_values, zip_columns}
use Rattle.halfbrown.proofs.map.LimitedHashMap.iter_mut.Goals as goal

pub invariant_of-self-lent : goal.invariant_of-self-lent
invariant_of-self-lent g c = kept_written _ _ _ _ c.self.invariant

pub returns : goal.returns
returns g c =
    let lent = lent_values _ _ _ c.self.inside.store c.self.inside.builder _ c.self.view_is c.self.invariant
    c.columns_mut-values.ensures.small in (
      (sym c.iter_mut.ensures.iter_mut_name, lent.back),
      record {
        writes_back = tt;
        left = (λ j. zip (c.iter.ensures.rest j) (c.iter_mut.ensures.rest j)) ∙ (λ j. zip (c.columns_mut-values.ensures.keys j) (c.columns_mut-values.ensures.values j))
            ∙ zip_columns c.self.inside.store.pairs ∙ lent.pairs;
        values_run = lends_values_in_order _;
        keeps = lent.keeps;
      },
    )
