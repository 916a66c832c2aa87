use Rattle.half_store.proofs.Common.{arith, ℕ, sym, ap, subst, length-replicate, capacity_of, AreWordsFor}
use Rattle.half_store.specs.Words.{room_of}
use Rattle.half_store.proofs.lemmas.table.Layout.{IsIndexed-empty, IsTable-as}
use Rattle.half_store.proofs.table.memory.TableMemory.into_table.Goals as goal

pub invariant_of-result : goal.invariant_of-result
invariant_of-result c =
    let m : ℕ = room_of c.self.inside.buckets in
    let x = c.self.invariant in
    let words = c.into_empty.ensures in
    let same = ap capacity_of (length-replicate {A = ℕ} m 0) in
    IsTable-as x.no_hashes.items words.words words.most (IsIndexed-empty m x.count) (subst (AreWordsFor _) (sym same) x.sized)
    (omega (arith, same, x.exact))
