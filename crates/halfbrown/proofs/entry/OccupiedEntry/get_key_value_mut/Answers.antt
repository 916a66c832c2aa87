use Rattle.halfbrown.proofs.Common.{refl, with_entry_value}
use Rattle.halfbrown.specs.EntryView.{map_with_value}
use Rattle.halfbrown.proofs.lemmas.entry.Methods.{lent_entry, written_entry}
use Rattle.halfbrown.proofs.entry.OccupiedEntry.get_key_value_mut.Goals as goal

pub invariant_of-self-lent : goal.invariant_of-self-lent
unfolding map_with_value
invariant_of-self-lent g c w = let o = with_entry_value c.args.self.now w in (o.within, (o.placed, tt))

pub returns : goal.returns
returns g c =
    let o = c.args.self.now in
    ((refl, λ w. lent_entry o w _ _), record { writes_back = tt; pair = c.pair_at_mut.ensures.pair; written = written_entry o })
