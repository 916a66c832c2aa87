use Rattle.halfbrown.proofs.Common.{◌∙◌}
use Rattle.halfbrown.proofs.lemmas.raw_entry.Methods.{lent_key, lent_value, found_or}
use Rattle.halfbrown.proofs.raw_entry.RawEntryMut.or_insert_counted.Goals as goal

pub or_insert_entry_counted-requires : goal.or_insert_entry_counted-requires
or_insert_entry_counted-requires g c = c.requires

pub returns : goal.returns
returns g c =
    let entry = c.or_insert_entry_counted.result in
    let pair = c.into_key_value.ensures in
    let puts = c.or_insert_entry_counted.ensures.puts in
    record {
      pair = (λ i. (
        lent_key entry.map.now.pairs entry.index _ _ _ pair puts.key_is i,
        lent_value entry.map.now.pairs entry.index _ _ _ pair puts.value_is i,
      ))
          ∙ found_or c.args.self c.args.default_key c.args.default_value;
      cost = c.or_insert_entry_counted.ensures.cost;
    }
