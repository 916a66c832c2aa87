use Rattle.half_store.proofs.Common.{◌≡◌, length, ◌+◌, ◌∙◌, arith, ◌<◌, suc, sym, ap, subst, set, length-set, capacity_of}
use Rattle.half_store.proofs.Common.{AreWordsFor, words_of}
use Rattle.half_store.specs.Table.{IsTableVacancy}
use Rattle.half_store.proofs.lemmas.table.Layout.{IsIndexed-add, IsTable-as, count_seen}
use Rattle.half_store.proofs.table.Table.add_at.Goals as goal
use Rattle.half_store.proofs.Common.{common_steps}

pub invariant_of-self : goal.invariant_of-self
invariant_of-self c =
    let t = c.self.inside in
    let hs = t.hashes.items in
    let words = words_of t.buckets in
    let bucket = c.args.bucket in
    let x = c.self.invariant in
    let held = ap (λ v. length v.hashes) c.self.view_is in
    let count = ap capacity_of (count_seen _ _ c.self.view_is) in
    let w = subst (λ t. IsTableVacancy t c.args.hash bucket) (sym c.self.view_is) c.requires.vacancy in
    let few : length hs < capacity_of (length words) = omega (arith, held, count, c.requires.capacity) in
    let index : c.len-word.result + 1 ≡ suc (length hs) = omega (arith, held, c.len-word.ensures.value) in
    let same = ap capacity_of (length-set words bucket (suc (length hs))) in
    IsTable-as c.push_reserved.ensures.items (c.set_word.ensures.words ∙ ap (set words bucket) index) c.set_word.ensures.most
    (IsIndexed-add x.indexed bucket c.args.hash w few) (subst (AreWordsFor _) (sym same) x.sized)
    (omega (arith, same, x.exact, c.push_reserved.ensures.capacity))

pub returns-clause-after : goal.returns-clause-after
returns-clause-after c = grind (arith, common_steps)
