use Rattle.half_store.proofs.Common.{length, arith, ℕ, sym, ap, subst, length-replicate, capacity_of, AreWordsFor, words_of}
use Rattle.half_store.proofs.lemmas.table.Layout.{IsIndexed-empty, IsTable-as}
use Rattle.half_store.proofs.table.Table.clear.Goals as goal

pub invariant_of-self : goal.invariant_of-self
invariant_of-self c =
    let x = c.self.invariant in
    let m : ℕ = length (words_of c.self.inside.buckets) in
    let same = ap capacity_of (length-replicate {A = ℕ} m 0) in
    IsTable-as c.clear-2.ensures.items c.clear.ensures.words c.clear.ensures.most (IsIndexed-empty m x.indexed.count)
    (subst (AreWordsFor _) (sym same) x.sized) (omega (arith, same, x.exact, c.clear-2.ensures.capacity))
