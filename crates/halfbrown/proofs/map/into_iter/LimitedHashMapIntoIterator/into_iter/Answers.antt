use Rattle.halfbrown.proofs.Common.{◌∙◌, zip}
use Rattle.halfbrown.proofs.lemmas.map.Iter.{gives_in_order, shows_values_in_order, zip_columns}
use Rattle.halfbrown.proofs.map.into_iter.LimitedHashMapIntoIterator.into_iter.Goals as goal

pub returns : goal.returns
returns g c =
    let columns = c.into_columns-keys.ensures in
    record {
      into_iter_gives = (
        (λ j. zip (c.into_iter.ensures.rest j) (c.into_iter-2.ensures.rest j)) ∙ (λ j. zip (columns.keys j) (columns.values j)) ∙ zip_columns c.args.self.pairs,
        columns.small,
        gives_in_order,
        shows_values_in_order (λ pair. pair),
        columns.valid,
      );
    }
