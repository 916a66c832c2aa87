use Rattle.halfbrown.proofs.Common.{arith, common_steps}
use Rattle.std.proofs.lemmas.Slice.Zip.{length-zip}
use Rattle.halfbrown.proofs.iter.iter_mut.IterMutExactSizeIterator.len.Goals as goal

pub returns-clause-value : goal.returns-clause-value
returns-clause-value g c = grind (arith, common_steps, length-zip)
