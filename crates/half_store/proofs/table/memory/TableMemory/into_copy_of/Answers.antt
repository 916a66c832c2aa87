use Rattle.half_store.proofs.Common.{◌∙◌, sym}
use Rattle.half_store.proofs.lemmas.table.Layout.{IsTable-as, count_seen, view_lent}
use Rattle.half_store.proofs.table.memory.TableMemory.into_copy_of.Goals as goal
use Rattle.half_store.proofs.Common.{arith, common_steps}

pub invariant_of-result : goal.invariant_of-result
invariant_of-result c = grind (arith, common_steps, IsTable-as, count_seen)

pub returns : goal.returns
returns c = view_lent c.table.view_is (c.copy_all.ensures.items ∙ c.as_slice.ensures.value) (sym c.into_copy_of.ensures.words)
