-- What follows of changed lists of pairs, for callers: the set `map_facts` has those that `grind` applies, and `using` takes it.
use Rattle.halfbrown.proofs.Common.{◌≡◌, ℕ, ◌+◌, ◌<◌, ◌≤◌, Bool, true, false, length, arith, zero, suc, cond, List, [], ◌∷◌, ◌++◌, take, get_or, slice_get, Option}
use Rattle.halfbrown.proofs.Common.{Some, unwrap_or, refl, ap, ◌∙◌, subst, common_steps, map-append, take_more, IsDistinct-tail, IsEquivalence, IsDistinct, keys_of}
use Rattle.halfbrown.proofs.Common.{values_of, lookup, lookup_entry, option_map, index_of, swap_remove_at, value_of, holds, holds_by, put, set_value, swap_out_by}
use Rattle.halfbrown.proofs.Common.{HasPut}
use Rattle.std.proofs.Common.{◌⊎◌}
use Rattle.std.proofs.Common.{reverse, count_by, map, sum}
use Rattle.std.proofs.Common.{append-nil, map-id}
use Rattle.std.specs.List.{filter, list_any}
use Rattle.std.specs.Option.{option_map_or}
use Rattle.std.proofs.lemmas.Cmp.{nat_eq_equiv}
use Rattle.std.proofs.lemmas.List.Sorted.{IsPermutation-reverse}
use Rattle.std.proofs.lemmas.List.Sums.{count_by-le-length, fold_push}
use Rattle.std.proofs.lemmas.Map.Entries.{none_past_head, option_filter}
use Rattle.std.proofs.lemmas.Map.{lookup-none}
use Rattle.halfbrown.specs.Collect.{last_value_of}
use Rattle.halfbrown.specs.Pairs.{IsQuery}
use Rattle.halfbrown.proofs.callers.Pairs.{value_of_equal, lookup_permuted}
use Rattle.halfbrown.proofs.lemmas.pairs.Indices.{value_of_entry}
use Rattle.halfbrown.proofs.lemmas.pairs.Changes.{map-swap_remove_at}
use Rattle.halfbrown.specs.ByKey.{add_key, CountsEach, SumsEach, GroupsEach}

-- ---- whether a key is held, and where

module _ {K V : Type 0} (test : K → Bool) where
  -- a key that passes is held exactly if any key passes
  pub holds_by-any : (ps : List (K × V)) → holds_by test ps ≡ list_any test (keys_of ps)
  holds_by-any [] = refl
  holds_by-any (p ∷ ps) = grind (arith, common_steps, holds_by-any ps)

  -- that value
  pub value_of_held : (ps : List (K × V)) → holds_by test ps ≡ true → (v : V) × (lookup test ps ≡ Some v)
  value_of_held ps h = grind (arith, common_steps)

  -- the first pair whose key passes has this value and stands at this index
  pub record IsPlaced (ps : List (K × V)) (v : V) : Type 0 where
    pub index : ℕ
    pub key : K
    pub at : slice_get ps index ≡ Some (key, v)
    pub passes : test key ≡ true
    pub first : index_of test (keys_of ps) ≡ Some index

  placed_by : (p : K × V) (ps : List (K × V)) (v : V) → (lookup test ps ≡ Some v → IsPlaced ps v) → (b : Bool) → test p.0 ≡ b
      → cond b (Some p.1) (lookup test ps) ≡ Some v → IsPlaced (p ∷ ps) v
  placed_by p ps v more true passes found =
      let same : p.1 ≡ v = cc in
      record { index = 0; key = p.0; at = ap (λ w. Some (p.0, w)) same; passes = passes; first = grind (arith, common_steps) }
  placed_by p ps v more false fails found =
      let m = more found in
      record { index = suc m.index; key = m.key; at = m.at; passes = m.passes; first = grind (arith, common_steps) }

  -- if a value is found its pair stands at an index
  pub place_of_value : (ps : List (K × V)) (v : V) → lookup test ps ≡ Some v → IsPlaced ps v
  place_of_value [] v found = absurd cc
  place_of_value (p ∷ ps) v found = placed_by p ps v (place_of_value ps v) (test p.0) refl found

  -- the value that is held, set again, changes nothing
  pub set_same : (ps : List (K × V)) (v : V) → lookup test ps ≡ Some v → set_value test ps v ≡ ps
  set_same [] v found = refl
  set_same (p ∷ ps) v found = grind (arith, common_steps, set_same ps v)

  -- the keys after a removal: the one that passes is gone, and the last is in its place
  pub keys_taken : (ps : List (K × V))
      → keys_of (swap_out_by test ps) ≡ option_map_or (swap_remove_at (keys_of ps)) (index_of test (keys_of ps)) (keys_of ps)
  keys_taken ps = grind (arith, common_steps, map-swap_remove_at (λ (p : K × V). p.0) ps)

module _ {K V : Type 0} (eq : K → K → Bool) where
  -- the value that is held, put again, changes nothing
  pub put_value_held : (ps : List (K × V)) (k : K) (v : V) → value_of eq ps k ≡ Some v → put eq ps k v ≡ ps
  put_value_held ps k v found = grind (arith, common_steps, set_same (eq k) ps v found)

  -- the pair of a key that is not held is appended
  pub put_new : (ps : List (K × V)) (k : K) (v : V) → holds eq ps k ≡ false → put eq ps k v ≡ ps ++ (k, v) ∷ []
  put_new ps k v absent = grind (arith, common_steps)

-- ---- after a value was set

module _ {K V : Type 0} (eq : K → K → Bool) (laws : IsEquivalence eq) (test : K → Bool) (query : IsQuery eq test) where
  -- a key that the test accepts has the value if it had one, and each other key what it had
  pub lookup_set : (ps : List (K × V)) (v : V) (q : K)
      → value_of eq (set_value test ps v) q ≡ cond (test q) (option_map (λ _. v) (value_of eq ps q)) (value_of eq ps q)
  lookup_set [] v q = grind (arith, common_steps)
  lookup_set (p ∷ ps) v q = grind (arith, common_steps, query p.0 q, query q p.0, laws.symm q p.0, lookup_set ps v q)

-- ---- a filter, as `retain` leaves

-- the keys that a test of keys keeps
pub keys_filter : {K V : Type 0} (f : K → Bool) (ps : List (K × V)) → keys_of (filter (λ p. f p.0) ps) ≡ filter f (keys_of ps)
keys_filter f [] = refl
keys_filter f (p ∷ ps) = grind (arith, common_steps, keys_filter f ps)

module _ {K V : Type 0} (eq : K → K → Bool) (laws : IsEquivalence eq) (f : K × V → Bool) where
  -- what a key has of the pairs that are kept
  pub lookup_filter : (ps : List (K × V)) (q : K) → IsDistinct eq (keys_of ps)
      → value_of eq (filter f ps) q ≡ option_map (λ p. p.1) (option_filter f (lookup_entry (eq q) ps))
  lookup_filter [] q distinct = refl
  lookup_filter (p ∷ ps) q distinct =
      let more = lookup_filter ps q (IsDistinct-tail eq p.0 (keys_of ps) distinct) in
      let past = none_past_head laws q p ps distinct in
      grind (arith, common_steps, lookup-none, more, past, value_of_entry)

-- ---- for `grind`: what any key has after a put or a removal

-- after a put of k the key q is equal to k and has its value, or has what it had; the first two parts show `grind` the calls to match
abbrev pub FindsAfterPut : {K V : Type 0} → (K → K → Bool) → List (K × V) → List (K × V) → K → V → K → Type 0
FindsAfterPut eq old new k v q = HasPut eq old k v new × (value_of eq new q ≡ value_of eq new q)
    × (((eq k q ≡ true) × (eq q k ≡ true) × (value_of eq new q ≡ Some v) × (value_of eq old q ≡ value_of eq old k))
    ⊎ ((eq k q ≡ false) × (eq q k ≡ false) × (value_of eq new q ≡ value_of eq old q)))

module _ {K V : Type 0} {eq : K → K → Bool} (laws : IsEquivalence eq) (old new : List (K × V)) where
  pub after_put : (k : K) (v : V) (q : K) → HasPut eq old k v new → FindsAfterPut eq old new k v q
  after_put k v q put = grind (arith, common_steps, laws.symm q k, put.equals q, put.others q, value_of_equal eq laws old k q)

-- the keys after a put
pub keys_after_put : {K V : Type 0} {eq : K → K → Bool} (old new : List (K × V)) (k : K) (v : V) → HasPut eq old k v new
    → HasPut eq old k v new × (keys_of new ≡ add_key eq (keys_of old) k)
keys_after_put {eq = eq} old new k v put =
    (put, put.keys ∙ ap (λ b. cond b (keys_of old) (keys_of old ++ k ∷ [])) (holds_by-any (eq k) old))

-- if no two keys are equal, the last value of a key is its value
pub last_is_value : {K V : Type 0} {eq : K → K → Bool} → IsEquivalence eq → (ps : List (K × V)) → IsDistinct eq (keys_of ps) → (k : K)
    → last_value_of eq ps k ≡ value_of eq ps k
last_is_value {eq = eq} laws ps distinct k = lookup_permuted eq laws ps (reverse ps) distinct (IsPermutation-reverse ps) k

pub ruleset map_facts = (after_put, keys_after_put, holds_by-any, put_value_held, put_new, nat_eq_equiv)

-- ---- the step of a loop that counts

module _ {K : Type 0} {eq : K → K → Bool} (laws : IsEquivalence eq) where
  count_push : (q : K) (xs : List K) (x : K) → count_by (eq q) (xs ++ x ∷ []) ≡ count_by (eq q) xs + cond (eq q x) 1 0
  count_push q xs x = fold_push (λ n y. n + cond (eq q y) 1 0) 0 xs x

  counts_by : (xs : List K) {old new : List (K × ℕ)} {k : K} {v : ℕ} → HasPut eq old k v new → v ≡ unwrap_or (value_of eq old k) 0 + 1
      → (q : K) → unwrap_or (value_of eq old q) 0 ≡ count_by (eq q) xs
      → unwrap_or (value_of eq new q) 0 ≡ count_by (eq q) (xs ++ k ∷ [])
  counts_by xs {old} {new} {k} {v} puts more q before =
      grind (arith, common_steps, count_by, count_push, puts.equals q, puts.others q, laws.symm q k, value_of_equal eq laws old k q)

  -- a put of one more counts one item more
  pub counted_more : (xs : List K) {old new : List (K × ℕ)} {k : K} {v : ℕ} → CountsEach eq xs old → HasPut eq old k v new
      → v ≡ unwrap_or (value_of eq old k) 0 + 1 → CountsEach eq (xs ++ k ∷ []) new
  counted_more xs {old} {new} {k} {v} before puts more = grind (arith, common_steps, counts_by, fold_push, keys_after_put)

  -- the same in a loop over a slice
  pub counted_step : (xs : List K) (i : ℕ) {old new : List (K × ℕ)} {k : K} {v : ℕ} → CountsEach eq (take i xs) old → HasPut eq old k v new
      → i < length xs → k ≡ get_or xs i k → v ≡ unwrap_or (value_of eq old k) 0 + 1 → CountsEach eq (take (i + 1) xs) new
  counted_step xs i {old} {new} {k} {v} before puts within item more =
      grind (arith, common_steps, counted_more (take i xs) before puts more, take_more xs i k within)

  -- no count is more than there are items, so that one more fits
  pub count_fits : {xs : List K} {ps : List (K × ℕ)} → CountsEach eq xs ps → (q : K) → unwrap_or (value_of eq ps q) 0 ≤ length xs
  count_fits {xs} {ps} counted q = omega (arith, counted.counts q, count_by-le-length (eq q) xs)

-- ---- the step of a loop that gathers values by key

group_push : {K X : Type 0} (eq : K → K → Bool) (q : K) (xs : List (K × X)) (x : K × X)
    → values_of (filter (λ x. eq q x.0) (xs ++ x ∷ [])) ≡ values_of (filter (λ x. eq q x.0) xs) ++ values_of (cond (eq q x.0) (x ∷ []) [])
group_push eq q xs x = grind (arith, common_steps)

module _ {K X V : Type 0} {eq : K → K → Bool} (laws : IsEquivalence eq) (read : V → List X) where
  groups_by : (xs : List (K × X)) (x : X) {old new : List (K × V)} {k : K} {v : V} → HasPut eq old k v new
      → read v ≡ option_map_or read (value_of eq old k) [] ++ x ∷ []
      → (q : K) → option_map_or read (value_of eq old q) [] ≡ values_of (filter (λ x. eq q x.0) xs)
      → option_map_or read (value_of eq new q) [] ≡ values_of (filter (λ x. eq q x.0) (xs ++ (k, x) ∷ []))
  groups_by xs x {old} {new} {k} {v} puts more q before =
      grind (arith, common_steps, append-nil, group_push, puts.equals q, puts.others q, laws.symm q k, value_of_equal eq laws old k q)

  unwrapped : (o : Option V) (d : V) → read d ≡ [] → read (unwrap_or o d) ≡ option_map_or read o []
  unwrapped o d empty = grind (arith, common_steps)

  -- a put of the values of a key with one more gathers one item more; d, which has none, is put if the key is new
  pub grouped_more : (xs : List (K × X)) (x : X) (d : V) {old new : List (K × V)} {k : K} {v : V} → GroupsEach eq read xs old
      → HasPut eq old k v new
      → read d ≡ [] → read v ≡ read (unwrap_or (value_of eq old k) d) ++ x ∷ [] → GroupsEach eq read (xs ++ (k, x) ∷ []) new
  grouped_more xs x d {old} {new} {k} {v} before puts empty more = grind (arith, common_steps, fold_push, groups_by, keys_after_put, map-append, unwrapped)

  -- the same in a loop over a slice
  pub grouped_step : (xs : List (K × X)) (i : ℕ) (x : X) (d : V) {old new : List (K × V)} {k : K} {v : V}
      → GroupsEach eq read (take i xs) old
      → HasPut eq old k v new → i < length xs → (k, x) ≡ get_or xs i (k, x) → read d ≡ []
      → read v ≡ read (unwrap_or (value_of eq old k) d) ++ x ∷ []
      → GroupsEach eq read (take (i + 1) xs) new
  grouped_step xs i x d {old} {new} {k} {v} before puts within item empty more = grind (arith, common_steps, grouped_more, take, take_more)

-- ---- the step of a loop that sums by key

-- the sum up to an item of those that pass a test, as it does, and its value are within the whole sum of these
pub sum_within : {A K : Type 0} (of : A → K × ℕ) (test : K → Bool) (xs : List A) (i : ℕ) (d : A) → i < length xs
    → test (of (get_or xs i d)).0 ≡ true
    → sum (values_of (filter (λ x. test x.0) (map of (take i xs)))) + (of (get_or xs i d)).1
    ≤ sum (values_of (filter (λ x. test x.0) (map of xs)))
sum_within of test [] i d within passes = grind (arith, common_steps)
sum_within of test (x ∷ xs) zero d within passes = grind (arith, common_steps)
sum_within of test (x ∷ xs) (suc i) d within passes = grind (arith, common_steps, sum_within of test xs i d)

sum_push_value : (xs : List ℕ) (n : ℕ) → sum (xs ++ n ∷ []) ≡ sum xs + n
sum_push_value xs n = fold_push (λ a x. a + x) 0 xs n

module _ {K : Type 0} {eq : K → K → Bool} (laws : IsEquivalence eq) where
  sum_push : (q : K) (xs : List (K × ℕ)) (x : K × ℕ)
      → sum (values_of (filter (λ x. eq q x.0) (xs ++ x ∷ []))) ≡ sum (values_of (filter (λ x. eq q x.0) xs)) + cond (eq q x.0) x.1 0
  sum_push q xs x = grind (arith, common_steps, group_push eq q xs x, sum_push_value, append-nil)

  sums_by : (xs : List (K × ℕ)) (n : ℕ) {old new : List (K × ℕ)} {k : K} {v : ℕ} → HasPut eq old k v new
      → v ≡ unwrap_or (value_of eq old k) 0 + n
      → (q : K) → unwrap_or (value_of eq old q) 0 ≡ sum (values_of (filter (λ x. eq q x.0) xs))
      → unwrap_or (value_of eq new q) 0 ≡ sum (values_of (filter (λ x. eq q x.0) (xs ++ (k, n) ∷ [])))
  sums_by xs n {old} {new} {k} {v} puts more q before =
      grind (arith, common_steps, sum_push q xs (k, n), puts.equals q, puts.others q, laws.symm q k, value_of_equal eq laws old k q)

  -- a put of what is held and n more sums one item more
  pub summed_more : (xs : List (K × ℕ)) (n : ℕ) {old new : List (K × ℕ)} {k : K} {v : ℕ} → SumsEach eq xs old → HasPut eq old k v new
      → v ≡ unwrap_or (value_of eq old k) 0 + n → SumsEach eq (xs ++ (k, n) ∷ []) new
  summed_more xs n {old} {new} {k} {v} before puts more = grind (arith, common_steps, fold_push, sums_by, keys_after_put, map-append)

  -- the same in a loop over a slice
  pub summed_step : (xs : List (K × ℕ)) (i : ℕ) (d : K × ℕ) {old new : List (K × ℕ)} {k : K} {v : ℕ} → SumsEach eq (take i xs) old
      → HasPut eq old k v new → i < length xs → k ≡ (get_or xs i d).0 → v ≡ unwrap_or (value_of eq old k) 0 + (get_or xs i d).1
      → SumsEach eq (take (i + 1) xs) new
  summed_step xs i d {old} {new} {k} {v} before puts within item more =
      grind (arith, common_steps, summed_more (take i xs) (get_or xs i d).1 before puts more, take_more xs i d within)

  -- no sum is more than that of all items of its key, so that one more fits if that does
  pub sum_fits : (xs : List (K × ℕ)) (i : ℕ) (d : K × ℕ) (ps : List (K × ℕ)) (k : K) → SumsEach eq (take i xs) ps → i < length xs
      → k ≡ (get_or xs i d).0
      → unwrap_or (value_of eq ps k) 0 + (get_or xs i d).1 ≤ sum (values_of (filter (λ x. eq k x.0) xs))
  sum_fits xs i d ps k before within item =
      let same = subst (λ x. eq k x ≡ true) item (laws.refl k) in
      grind (arith, common_steps, before.sums k, sum_within (λ x. x) (eq k) xs i d within same, map-id)
