use Rattle.halfbrown.proofs.Common.{◌∙◌, sym}
use Rattle.half_store.proofs.lemmas.vecmap.Zip.{length-zip_even}
use Rattle.halfbrown.proofs.iter.IterExactSizeIterator.len.Goals as goal

pub returns-clause-value : goal.returns-clause-value
returns-clause-value g c = c.len.ensures.value ∙ sym (length-zip_even _ _ c.args.self.now.even)
