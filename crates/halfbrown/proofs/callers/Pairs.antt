-- What callers read off a list of pairs after a put or a removal: which key has which value, and how many pairs there are.
use Rattle.halfbrown.proofs.Common.{◌≡◌, ℕ, ◌+◌, Bool, true, false, length, arith, cond, List, [], ◌∷◌, ◌++◌, get_or, Option, Some, refl, ap, ◌∙◌, None}
use Rattle.halfbrown.proofs.Common.{is_some, sym, common_steps, map-append, get_or_default, slice_get_within, get_or_from_slice_get, IsEquivalence, IsDistinct}
use Rattle.halfbrown.proofs.Common.{keys_of, lookup, index_of, swap_remove_at, KeyFoundAt, KeyMissing, value_of, holds, put, set_value, swap_out_by, HasPut}
use Rattle.halfbrown.proofs.Common.{HasRemovedBy}
use Rattle.std.specs.List.Sorted.{IsPermutation}
use Rattle.std.proofs.Math.ListN.{get_or-map}
use Rattle.std.proofs.lemmas.List.Sorted.{IsPermutation-map, IsPermutation-sym, Contains-permutation, length_permutation}
use Rattle.std.proofs.lemmas.Map.{lookup-none}
use Rattle.std.proofs.lemmas.Map.Entries.{place_from_lookup, none_past_head}
use Rattle.std.proofs.lemmas.Map.Keys.{IsDistinct-IsPermutation}
use Rattle.std.proofs.lemmas.Map.Views.{lookup-from_Contains}
use Rattle.halfbrown.specs.Pairs.{IsQuery, swap_out}
use Rattle.halfbrown.specs.Updates.{HasRemoved}
use Rattle.halfbrown.proofs.lemmas.pairs.Indices.{first_of_index, first_passes, index_found, absent_of_index}
use Rattle.halfbrown.proofs.lemmas.pairs.Changes.{IsPermutation-swap_remove_at, length-swap_remove_at}

module _ {K V : Type 0} (test : K → Bool) where
  -- a value that is set leaves the keys
  pub keys_set : (ps : List (K × V)) (v : V) → keys_of (set_value test ps v) ≡ keys_of ps
  keys_set [] v = refl
  keys_set (p ∷ ps) v = grind (arith, common_steps, keys_set ps v)

module _ {K V : Type 0} (eq : K → K → Bool) where
  -- a put leaves the keys if an equal one is held, and otherwise adds its key at the end
  pub keys_put : (ps : List (K × V)) (k : K) (v : V) → keys_of (put eq ps k v) ≡ cond (holds eq ps k) (keys_of ps) (keys_of ps ++ k ∷ [])
  keys_put ps k v = grind (arith, common_steps, keys_set, map-append)

  -- a put, one pair at a time
  pub put_step : (p : K × V) (ps : List (K × V)) (k : K) (v : V) → put eq (p ∷ ps) k v ≡ cond (eq k p.0) ((p.0, v) ∷ ps) (p ∷ put eq ps k v)
  put_step p ps k v = grind (arith, common_steps)

  -- there is one pair more if the key was not held
  pub len_put : (ps : List (K × V)) (k : K) (v : V) → length (put eq ps k v) ≡ cond (holds eq ps k) (length ps) (length ps + 1)
  len_put [] k v = refl
  len_put (p ∷ ps) k v = grind (arith, common_steps, len_put ps k v)

  -- there is one pair fewer if the key was held
  pub len_taken : (ps : List (K × V)) (k : K) → length (swap_out eq ps k) + cond (holds eq ps k) 1 0 ≡ length ps
  len_taken ps k = grind (arith, common_steps, absent_of_index (eq k) ps, index_found (eq k) ps, length-swap_remove_at)

module _ {K : Type 0} (eq : K → K → Bool) (laws : IsEquivalence eq) where
  -- a query that does not stand for a key stands for none of its equals
  pub query_apart : (test : K → Bool) → IsQuery eq test → (k : K) → test k ≡ false → (x : K) → eq k x ≡ true → test x ≡ false
  query_apart test query k fails x same = grind (arith, common_steps, query x k)

module _ {K V : Type 0} (eq : K → K → Bool) (laws : IsEquivalence eq) where
  -- equal keys have the same value
  pub value_of_equal : (ps : List (K × V)) (k q : K) → eq k q ≡ true → value_of eq ps q ≡ value_of eq ps k
  value_of_equal ps k q same = ap (λ test. lookup test ps) (λ i x. sym (laws.congr k q x same) i)

  -- ---- another order

  distinct_permuted : (xs ys : List (K × V)) → IsDistinct eq (keys_of xs) → IsPermutation xs ys → IsDistinct eq (keys_of ys)
  distinct_permuted xs ys distinct permuted =
      IsDistinct-IsPermutation eq laws.symm (keys_of xs) (keys_of ys) (IsPermutation-map (λ p. p.0) xs ys permuted) distinct

  found_permuted : (xs ys : List (K × V)) → IsDistinct eq (keys_of xs) → IsPermutation xs ys → (test : K → Bool) → IsQuery eq test → (v : V)
      → lookup test xs ≡ Some v → lookup test ys ≡ Some v
  found_permuted xs ys distinct permuted test query v found =
      let at = place_from_lookup test xs v found in
      let p : K × V = (at.1, v) in
      let held = Contains-permutation xs ys p permuted (at.0, slice_get_within xs at.0 p at.2, get_or_from_slice_get xs at.0 p p at.2) in
      ap (λ (t : K → Bool). lookup t ys) (λ i x. query at.1 x at.3 i)
      ∙ lookup-from_Contains laws at.1 v ys (distinct_permuted xs ys distinct permuted) held

  -- what a query finds does not depend on the order of distinct pairs
  pub query_permuted : (xs ys : List (K × V)) → IsDistinct eq (keys_of xs) → IsPermutation xs ys → (test : K → Bool) → IsQuery eq test
      → lookup test ys ≡ lookup test xs
  query_permuted xs ys distinct permuted test query =
      let there = found_permuted xs ys distinct permuted test query in
      let back = found_permuted ys xs (distinct_permuted xs ys distinct permuted) (IsPermutation-sym xs ys permuted) test query in
      grind (arith, common_steps, there, back)

  -- nor does a look-up
  pub lookup_permuted : (xs ys : List (K × V)) → IsDistinct eq (keys_of xs) → IsPermutation xs ys → (q : K)
      → lookup (eq q) ys ≡ lookup (eq q) xs
  lookup_permuted xs ys distinct permuted q = query_permuted xs ys distinct permuted (eq q) (laws.congr q)

  -- ---- a put

  -- the equals of the key have the value that was put, and each other key has what it had
  pub lookup_put : (ps : List (K × V)) (k : K) (v : V) (q : K) → value_of eq (put eq ps k v) q ≡ cond (eq k q) (Some v) (value_of eq ps q)
  lookup_put [] k v q = grind (arith, common_steps, laws.symm q k)
  lookup_put (p ∷ ps) k v q = grind (arith, common_steps, laws.congr k p.0 q, lookup_put ps k v q)

  -- a test that accepts no equal of the key finds what it found
  pub put_other : (ps : List (K × V)) (k : K) (v : V) (test : K → Bool) → ((x : K) → eq k x ≡ true → test x ≡ false)
      → lookup test (put eq ps k v) ≡ lookup test ps
  put_other [] k v test apart = grind (arith, common_steps, apart k, laws.refl k)
  put_other (p ∷ ps) k v test apart = grind (arith, common_steps, apart p.0, put_other ps k v test apart)

  pub value_of_put : (ps : List (K × V)) (k : K) (v : V) → value_of eq (put eq ps k v) k ≡ Some v
  value_of_put ps k v = lookup_put ps k v k ∙ ap (λ b. cond b (Some v) (value_of eq ps k)) (laws.refl k)

  pub held_put : (ps : List (K × V)) (k : K) (v : V) → holds eq (put eq ps k v) k ≡ true
  held_put ps k v = ap is_some (value_of_put ps k v)

  pub equal_of_put : (ps : List (K × V)) (k : K) (v : V) (q : K) → eq k q ≡ true → value_of eq (put eq ps k v) q ≡ Some v
  equal_of_put ps k v q same = lookup_put ps k v q ∙ ap (λ b. cond b (Some v) (value_of eq ps q)) same

  pub other_of_put : (ps : List (K × V)) (k : K) (v : V) (q : K) → eq k q ≡ false → value_of eq (put eq ps k v) q ≡ value_of eq ps q
  other_of_put ps k v q other = lookup_put ps k v q ∙ ap (λ b. cond b (Some v) (value_of eq ps q)) other

  -- a query that stands for the key finds the value
  pub put_same : (ps : List (K × V)) (k : K) (v : V) (test : K → Bool) → IsQuery eq test → test k ≡ true
      → lookup test (put eq ps k v) ≡ Some v
  put_same ps k v test query passes = grind (arith, common_steps, value_of_put)

  -- what any query finds after a put
  pub query_put : (ps : List (K × V)) (k : K) (v : V) (test : K → Bool) → IsQuery eq test
      → lookup test (put eq ps k v) ≡ cond (test k) (Some v) (lookup test ps)
  query_put ps k v test query = grind (arith, common_steps, query_apart eq laws test query k, put_other ps k v test, put_same ps k v test query)

  pub has_put : (ps : List (K × V)) (k : K) (v : V) → HasPut eq ps k v (put eq ps k v)
  has_put ps k v = grind (arith, common_steps, equal_of_put, held_put, keys_put, len_put, other_of_put, value_of_put)

  -- ---- a removal

  pub passing : (test : K → Bool) (ps : List (K × V)) (i : ℕ) → KeyFoundAt test ps i
      → (p : K × V) × (p ≡ get_or ps i p) × (test p.0 ≡ true)
  passing test [] i at = absurd (omega arith)
  passing test (q ∷ ps) i at = (
    get_or (q ∷ ps) i q,
    get_or_default (q ∷ ps) i q (get_or (q ∷ ps) i q) at.within,
    ap test (sym (get_or-map (λ p. p.0) (q ∷ ps) i q))
        ∙ first_passes test (keys_of (q ∷ ps)) i q.0 (first_of_index test (keys_of (q ∷ ps)) i at.index_is),
  )

  module _ (test : K → Bool) (query : IsQuery eq test) (ps : List (K × V)) (distinct : IsDistinct eq (keys_of ps)) where
    -- the pairs are the one whose key passes and those that are left, in another order
    pub has_left : (i : ℕ) → KeyFoundAt test ps i → (left : List (K × V))
        → ((p : K × V) → p ≡ get_or ps i p → IsPermutation ps (p ∷ left)) → HasRemovedBy eq test ps left
    has_left i at left orders =
        let found = passing test ps i at in
        let p = found.0 in
        let order = orders p found.1 in
        let none = lookup-none (eq p.0) left
        (none_past_head laws p.0 p left (distinct_permuted ps (p ∷ left) distinct order) (laws.refl p.0)) in
        let lost : lookup test left ≡ None = ap (λ t. lookup t left) (λ i x. query p.0 x found.2 i) ∙ none in
        record {
          not_held = ap is_some lost;
          no_value = lost;
          equals = λ q passes. ap (λ t. lookup t left) (λ i x. sym (query q x passes) i) ∙ lost;
          others = λ q fails. grind (arith, common_steps, query p.0 q found.2, laws.symm q p.0, lookup_permuted ps (p ∷ left) distinct order q);
          len = rw at.held (grind (arith, common_steps, length_permutation ps (p ∷ left) order));
        }

    -- or none passes
    pub has_all : KeyMissing test ps → HasRemovedBy eq test ps ps
    has_all absent =
        let equals : (q : K) → test q ≡ true → value_of eq ps q ≡ None =
        λ q passes. ap (λ t. lookup t ps) (λ i x. sym (query q x passes) i) ∙ absent.value in
        grind (arith, common_steps, absent, equals)

    removed_by : (index : Option ℕ) → index ≡ index_of test (keys_of ps) → HasRemovedBy eq test ps (swap_out_by test ps)
    removed_by (Some i) is =
        let at = index_found test ps i is in
        rw at.take_is (has_left i at (swap_remove_at ps i) (λ p. IsPermutation-swap_remove_at ps i p at.within))
    removed_by None is = let absent = absent_of_index test ps is in rw absent.take_is (has_all absent)

    -- no key that passes has a value, and each other key has what it had
    pub has_removed_by : HasRemovedBy eq test ps (swap_out_by test ps)
    has_removed_by = removed_by (index_of test (keys_of ps)) refl

  module _ (ps : List (K × V)) (distinct : IsDistinct eq (keys_of ps)) (k : K) where
    pub has_removed : HasRemoved eq ps k (swap_out eq ps k)
    has_removed = has_removed_by (eq k) (laws.congr k) ps distinct

    -- no equal of the key has a value, and each other key has what it had
    pub lookup_taken : (q : K) → value_of eq (swap_out eq ps k) q ≡ cond (eq k q) None (value_of eq ps q)
    lookup_taken q = grind (arith, common_steps, has_removed.equals q, has_removed.others q)

    query_found : (test : K → Bool) → IsQuery eq test → ((q : K) → eq k q ≡ true → test q ≡ false) → (q : K) → test q ≡ true
        → lookup test (swap_out eq ps k) ≡ lookup test ps
    query_found test query apart q passes =
        let same : test ≡ eq q = λ i x. query q x passes i in
        rw same (has_removed.others q (grind (arith, common_steps, apart q)))

    -- a query that stands for no equal of the key finds what it found
    pub query_taken : (test : K → Bool) → IsQuery eq test → ((q : K) → eq k q ≡ true → test q ≡ false)
        → lookup test (swap_out eq ps k) ≡ lookup test ps
    query_taken test query apart =
        let there = place_from_lookup test (swap_out eq ps k) in
        let was = place_from_lookup test ps in
        grind (arith, common_steps, query_found test query apart, there, was)
