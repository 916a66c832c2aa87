-- What callers read off the values of a list of pairs after a change: their sum, and the pairs once a value is set by its index.
-- `using` takes the sets at the end.
use Rattle.halfbrown.proofs.Common.{◌≡◌, ℕ, ◌+◌, ◌≤◌, Bool, length, arith, cond, List, [], ◌∷◌, ◌++◌, get_or, slice_get, Option, Some, unwrap_or, refl, ap, ◌∙◌}
use Rattle.halfbrown.proofs.Common.{None, sym, ◌-◌, common_steps, get_or_default, slice_get-get_or, slice_get-map, IsEquivalence, IsDistinct, keys_of}
use Rattle.halfbrown.proofs.Common.{values_of, lookup, option_map, index_of, swap_remove_at, set_value_at, length-set_value_at, value_of, holds_by, put, set_value}
use Rattle.halfbrown.proofs.Common.{swap_out_by}
use Rattle.std.proofs.Common.{sum}
use Rattle.std.proofs.lemmas.List.{map_push}
use Rattle.std.proofs.lemmas.List.Sums.{sum_by-cons, fold_push}
use Rattle.std.proofs.lemmas.Map.Entries.{sum_by_values_permutation}
use Rattle.std.specs.List.{sum_by}
use Rattle.halfbrown.proofs.callers.Keys.{set_same}
use Rattle.halfbrown.proofs.callers.Pairs.{lookup_put}
use Rattle.halfbrown.proofs.lemmas.map.Layout.{keys_of-set_value_at}
use Rattle.halfbrown.proofs.lemmas.pairs.Indices.{absent_of_index, index_found, index_of_pair}
use Rattle.halfbrown.proofs.lemmas.pairs.Changes.{IsPermutation-swap_remove_at}

-- ---- sums

module _ {K V : Type 0} (f : V → ℕ) where
  -- if a value is set, it counts in the place of the old one
  pub sum_set : (test : K → Bool) (ps : List (K × V)) (w : V)
      → sum_by f (values_of (set_value test ps w)) + unwrap_or (option_map f (lookup test ps)) 0
      ≡ sum_by f (values_of ps) + cond (holds_by test ps) (f w) 0
  sum_set test [] w = refl
  sum_set test (p ∷ ps) w = grind (arith, common_steps, sum_by-cons, sum_set test ps w)

  sum_push : (ps : List (K × V)) (k : K) (v : V) → sum_by f (values_of (ps ++ (k, v) ∷ [])) ≡ sum_by f (values_of ps) + f v
  sum_push ps k v = ap (sum_by f) (map_push (λ p. p.1) ps (k, v)) ∙ fold_push (λ n x. n + f x) 0 (values_of ps) v

  -- after a put the value counts in the place of the one that the key had
  pub sum_put : (eq : K → K → Bool) (ps : List (K × V)) (k : K) (v : V)
      → sum_by f (values_of (put eq ps k v)) + unwrap_or (option_map f (value_of eq ps k)) 0 ≡ sum_by f (values_of ps) + f v
  sum_put eq ps k v = grind (arith, common_steps, sum_set (eq k) ps v, sum_push ps k v)

  sum_taken_by : (test : K → Bool) (ps : List (K × V)) (index : Option ℕ) → index ≡ index_of test (keys_of ps)
      → sum_by f (values_of (swap_out_by test ps)) + unwrap_or (option_map f (lookup test ps)) 0 ≡ sum_by f (values_of ps)
  sum_taken_by test ps None is = let absent = absent_of_index test ps is in grind (arith, common_steps, absent.take_is, absent.value)
  sum_taken_by test [] (Some i) is = absurd cc
  sum_taken_by test (p ∷ ps) (Some i) is =
      let found = index_found test (p ∷ ps) i is in
      let rest = swap_remove_at (p ∷ ps) i in
      let removed = get_or (p ∷ ps) i p in
      let value : lookup test (p ∷ ps) ≡ Some removed.1 =
      found.value ∙ slice_get-map (λ p. p.1) (p ∷ ps) i ∙ ap (option_map (λ p. p.1)) (slice_get-get_or (p ∷ ps) i p found.within) in
      let same = sum_by_values_permutation f (p ∷ ps) (removed ∷ rest) (IsPermutation-swap_remove_at (p ∷ ps) i removed found.within (get_or_default (p ∷ ps) i p removed found.within)) in
      rw (found.take_is, value) (omega (arith, same, sum_by-cons f removed.1 (values_of rest)))

  -- what is left once a pair is removed
  pub sum_taken : (test : K → Bool) (ps : List (K × V))
      → sum_by f (values_of (swap_out_by test ps)) + unwrap_or (option_map f (lookup test ps)) 0 ≡ sum_by f (values_of ps)
  sum_taken test ps = sum_taken_by test ps (index_of test (keys_of ps)) refl

module _ {K : Type 0} (test : K → Bool) (ps : List (K × ℕ)) where
  -- the same of numbers
  pub total_taken : sum (values_of (swap_out_by test ps)) + unwrap_or (lookup test ps) 0 ≡ sum (values_of ps)
  total_taken = grind (arith, common_steps, sum_taken (λ n. n) test ps)

  -- none is more than their sum
  pub held_within : unwrap_or (lookup test ps) 0 ≤ sum (values_of ps)
  held_within = omega (arith, total_taken)

module _ {K : Type 0} (from to : K → Bool) (ps : List (K × ℕ)) (n : ℕ) {v w : ℕ} (had : lookup from ps ≡ Some v) (enough : n ≤ v)
    (has : lookup to (set_value from ps (v - n)) ≡ Some w) where
  -- a number to which some of another is moved is no more than the sum was
  pub moved_within : w + n ≤ sum (values_of ps)
  moved_within = grind (arith, common_steps, sum_set (λ n. n) from ps (v - n), held_within to (set_value from ps (v - n)))

-- ---- a value that is set by its index

module _ {K V : Type 0} where
  pub keys_set_value_at : (ps : List (K × V)) (i : ℕ) (v : V) → keys_of (set_value_at ps i v) ≡ keys_of ps
  keys_set_value_at = keys_of-set_value_at

  pub length_set_value_at : (ps : List (K × V)) (i : ℕ) (v : V) → length (set_value_at ps i v) ≡ length ps
  length_set_value_at = length-set_value_at

  -- the key of the pair at the index has the value, and each other key what it had
  pub lookup_set_value_at : {eq : K → K → Bool} (laws : IsEquivalence eq) (ps : List (K × V)) (i : ℕ) (v : V) (p : K × V) (q : K)
      → IsDistinct eq (keys_of ps) → slice_get ps i ≡ Some p
      → value_of eq (set_value_at ps i v) q ≡ cond (eq p.0 q) (Some v) (value_of eq ps q)
  lookup_set_value_at {eq} laws ps i v p q distinct at =
      let found = index_of_pair eq laws ps i p distinct at in
      ap (λ l. value_of eq l q) (sym (found.put_is p.0 v)) ∙ lookup_put eq laws ps p.0 v q

pub ruleset value_facts = (sum_set, sum_put, total_taken, moved_within, set_same)

pub ruleset index_facts = (keys_set_value_at, length_set_value_at, lookup_set_value_at)
