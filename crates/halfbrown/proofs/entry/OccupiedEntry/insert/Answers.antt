use Rattle.halfbrown.proofs.Common.{with_entry_value}
use Rattle.halfbrown.proofs.entry.OccupiedEntry.insert.Goals as goal

pub invariant_of-self : goal.invariant_of-self
invariant_of-self g c =
    let o = with_entry_value c.args.self.now c.replace-old.new.dest in record { within = o.within; placed = o.placed }
