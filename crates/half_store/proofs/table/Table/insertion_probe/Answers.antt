use Rattle.half_store.proofs.Common.{ap, words_of}
use Rattle.half_store.proofs.lemmas.table.Find.{probe_seen}
use Rattle.half_store.proofs.table.Table.insertion_probe.Goals as goal

pub returns-in-FourBytes-clause-cost : goal.returns-in-FourBytes-clause-cost
returns-in-FourBytes-clause-cost c =
    probe_seen c.self.view_is c.as_slice-hashes.ensures.value (ap words_of c.in-FourBytes.is) c.args.hash c.args.tally.now
    c.first_empty.new.tally c.first_empty.ensures.cost

pub returns-in-EightBytes-clause-cost : goal.returns-in-EightBytes-clause-cost
returns-in-EightBytes-clause-cost c =
    probe_seen c.self.view_is c.as_slice-hashes.ensures.value (ap words_of c.in-EightBytes.is) c.args.hash c.args.tally.now
    c.first_empty-in-EightBytes.new.tally c.first_empty-in-EightBytes.ensures.cost
