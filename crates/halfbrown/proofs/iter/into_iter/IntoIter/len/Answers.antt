use Rattle.halfbrown.proofs.Common.{length, ap, ◌∙◌, sym}
use Rattle.half_store.proofs.lemmas.vecmap.Zip.{length-zip_even}
use Rattle.halfbrown.proofs.iter.into_iter.IntoIter.len.Goals as goal

pub returns : goal.returns
returns g c = c.len.ensures ∙ c.self.inside.keys.rest.ok.0 ∙ sym (length-zip_even _ _ c.self.invariant) ∙ ap length c.self.view_is
