use Rattle.half_store.proofs.Common.{◌≡◌, ◌≤◌, length, take, ◌++◌, refl, ◌∙◌, arith, ℕ, sym, ap, List, subst, replicate, drop, take_all, length-replicate}
use Rattle.half_store.proofs.Common.{capacity_of, IsBucketCount, AreWordsFor, words_of}
use Rattle.std.proofs.lemmas.List.{take_at}
use Rattle.half_store.specs.Words.{greatest_word}
use Rattle.half_store.proofs.lemmas.table.Layout.{IsTable-as, count_seen}
use Rattle.half_store.proofs.store.retain.retain_in_table.Given as given
use Rattle.half_store.proofs.store.retain.retain_in_table.Goals as goal

-- a column whose front part is written as it was
same_front : (items front : List ℕ) (n : ℕ) → front ≡ items → n ≡ length items → take n (front ++ drop (length front) items) ≡ items
same_front items front n same len = take_at front (drop (length front) items) n (omega (arith, ap length same, len)) ∙ same

-- as many pairs are left, so the hashes are as they were
module _ (g : given.Over) (c : goal.Then-len g) where
  all : length c.retain.new.self.pairs ≡ length c.table.inside.hashes.items
  all = sym c.len.ensures.len ∙ c.if-len.true ∙ c.len-2.ensures ∙ omega (arith, c.table.inside.hashes.ok)

  same : c.retain.new.hashes ≡ c.table.inside.hashes.items
  same = c.retain.ensures.same (all ∙ ap (λ t. length t.hashes) c.table.view_is ∙ c.requires.len) ∙ c.as_mut_slice.ensures.value

  front : take c.table.inside.hashes.len (c.retain.new.hashes ++ drop (length c.retain.new.hashes) c.table.inside.hashes.items)
      ≡ c.table.inside.hashes.items
  front = same_front c.table.inside.hashes.items c.retain.new.hashes c.table.inside.hashes.len same (omega (arith, c.table.inside.hashes.ok))

pub invariant_of-table : goal.invariant_of-table
invariant_of-table g c = let x = c.table.invariant in IsTable-as (front g c) refl refl x.indexed x.sized x.exact

pub returns-then-len : goal.returns-then-len
returns-then-len g c =
    let e = c.retain.ensures in
    record {
      kept = e.kept;
      len = e.len;
      capacity = e.capacity;
      hashes = λ hash each. front g c ∙ sym (same g c)
          ∙ sym (take_all (length c.retain.new.self.pairs) c.retain.new.hashes (omega (arith, all g c, ap length (same g c))))
          ∙ e.hashes hash (c.as_mut_slice.ensures.value ∙ ap (λ t. t.hashes) c.table.view_is ∙ each);
      even = ap length (front g c) ∙ sym (all g c);
      buckets = count_seen _ _ c.table.view_is;
    }

as_many : (old new : List ℕ) → new ≡ replicate (length old) 0 → length new ≡ length old
as_many old new is = ap length is ∙ length-replicate (length old) 0

pub rehash-requires : goal.rehash-requires
rehash-requires g c =
    let x = c.table.invariant in
    let cleared = as_many (words_of c.table.inside.buckets) _ c.clear.ensures.words in
    let fits : length c.as_slice.result.now ≤ capacity_of (length (words_of c.table.inside.buckets)) =
    omega (arith, c.as_slice.ensures.len, c.truncate.ensures.len, c.table.inside.hashes.ok, x.indexed.room) in
    record {
      count = subst IsBucketCount (sym cleared) x.indexed.count;
      empty = c.clear.ensures.words ∙ ap (λ n. replicate n 0) (sym cleared);
      capacity = subst (λ n. length c.as_slice.result.now ≤ capacity_of n) (sym cleared) fits;
      fits = omega (arith, fits, c.clear.ensures.most, x.sized.fits);
    }

pub invariant_of-table-2 : goal.invariant_of-table-2
invariant_of-table-2 g c =
    let x = c.table.invariant in
    let len = c.rehash.ensures.len ∙ as_many (words_of c.table.inside.buckets) _ c.clear.ensures.words in
    let most = c.rehash.ensures.most ∙ c.clear.ensures.most in
    IsTable-as (sym c.as_slice.ensures.value) refl most c.rehash.ensures.indexed
    (subst (λ n. AreWordsFor (greatest_word c.table.inside.buckets) (capacity_of n)) (sym len) x.sized)
    (c.truncate.ensures.capacity ∙ x.exact ∙ ap capacity_of (sym len))

pub returns-clause-buckets : goal.returns-clause-buckets
returns-clause-buckets g c =
    c.rehash.ensures.len
    ∙ as_many (words_of c.table.inside.buckets) _ c.clear.ensures.words ∙ count_seen _ _ c.table.view_is
