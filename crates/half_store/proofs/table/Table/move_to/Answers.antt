use Rattle.half_store.proofs.Common.{◌≤◌, length, refl, ◌∙◌, arith, ℕ, sym, ap, subst, replicate, length-replicate, capacity_of, IsBucketCount, AreWordsFor}
use Rattle.half_store.specs.Words.{room_of}
use Rattle.half_store.proofs.lemmas.table.Layout.{IsTable-as}
use Rattle.half_store.proofs.table.Table.move_to.Goals as goal
use Rattle.half_store.proofs.Common.{common_steps}

pub rehash-requires : goal.rehash-requires
rehash-requires c =
    let memory = c.memory.invariant in
    let words = c.into_empty-buckets.ensures in
    let long = ap length words.words ∙ length-replicate {A = ℕ} (room_of c.memory.inside.buckets) 0 in
    let fits : length c.as_slice.result.now ≤ capacity_of (room_of c.memory.inside.buckets) =
    omega (arith, ap length c.as_slice.ensures.value, ap (λ t. length t.hashes) c.self.view_is, ap capacity_of c.memory.view_is, c.requires) in
    record {
      count = subst IsBucketCount (sym long) memory.count;
      empty = words.words ∙ ap (λ n. replicate n 0) (sym long);
      capacity = omega (arith, fits, ap capacity_of long);
      fits = omega (arith, fits, words.most, memory.sized.fits);
    }

pub invariant_of-self : goal.invariant_of-self
invariant_of-self c =
    let memory = c.memory.invariant in
    let words = c.into_empty-buckets.ensures in
    let long = c.rehash.ensures.len ∙ ap length words.words ∙ length-replicate {A = ℕ} (room_of c.memory.inside.buckets) 0 in
    IsTable-as (c.move_to.ensures.items ∙ sym c.as_slice.ensures.value) refl (c.rehash.ensures.most ∙ words.most) c.rehash.ensures.indexed
    (subst (AreWordsFor _) (sym (ap capacity_of long)) memory.sized) (c.move_to.ensures.capacity ∙ memory.exact ∙ sym (ap capacity_of long))

pub returns-clause-buckets : goal.returns-clause-buckets
returns-clause-buckets c = grind (arith, common_steps)
