use Rattle.half_store.proofs.Common.{ap, words_of}
use Rattle.half_store.proofs.lemmas.table.Find.{search_seen}
use Rattle.half_store.proofs.table.Table.find.Goals as goal

pub returns-in-FourBytes : goal.returns-in-FourBytes
returns-in-FourBytes g c = search_seen c.self.view_is c.as_slice-hashes.ensures.value (ap words_of c.in-FourBytes.is) c.probe_for.ensures

pub returns-in-EightBytes : goal.returns-in-EightBytes
returns-in-EightBytes g c =
    search_seen c.self.view_is c.as_slice-hashes.ensures.value (ap words_of c.in-EightBytes.is) c.probe_for-in-EightBytes.ensures
