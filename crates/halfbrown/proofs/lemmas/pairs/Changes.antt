-- Lists of pairs, after one got another key or another value, or is gone.
use Rattle.halfbrown.proofs.Common.{◌≡◌, ℕ, ◌+◌, ◌<◌, Bool, true, false, length, arith, suc, List, [], ◌∷◌, ◌++◌, take, get_or, slice_get, Option, Some, refl}
use Rattle.halfbrown.proofs.Common.{ap, ◌∙◌, None, sym, subst, map, IfSome, zero, common_steps, get_or_default, IsDistinct-tail, slice_get-map, same_Some}
use Rattle.halfbrown.proofs.Common.{slice_get_cases, IsEquivalence, AllByRecursion, keys_of, values_of, option_map, index_of, swap_remove_at, set_value_at}
use Rattle.halfbrown.proofs.Common.{set_key_at, value_of}
use Rattle.std.proofs.Common.{set}
use Rattle.std.proofs.Math.ListN.{set, length-map, get_or-map}
use Rattle.std.proofs.lemmas.List.{map-set, set-set, length-set, take-map, take-set-le, get_or-set_other}
use Rattle.std.proofs.lemmas.List.Sorted.{IsPermutation-swap_remove, IsPermutation-remove}
use Rattle.std.proofs.lemmas.Map.Keys.{IsDistinct-IsPermutation}
use Rattle.std.specs.List.{IsDistinct, swap_remove, remove}
use Rattle.std.specs.List.Sorted.{IsPermutation}
use Rattle.std.specs.Map.{remove_entry}
use Rattle.half_store.proofs.lemmas.store.States.{length-set_key_at}
use Rattle.halfbrown.specs.Pairs.{stored_pair_of}
use Rattle.halfbrown.specs.Updates.{HasKeyReplaced}
use Rattle.halfbrown.proofs.lemmas.pairs.Indices.{IsFirst, first_of_index}

module _ {A B : Type 0} (f : A → B) where
  map-swap_remove : (xs : List A) (i : ℕ) (d : A) → map f (swap_remove xs i d) ≡ swap_remove (map f xs) i (f d)
  map-swap_remove xs i d =
      let map-take : (n : ℕ) (ys : List A) → map f (take n ys) ≡ take n (map f ys) = λ n ys. sym (take-map f n ys) in
      grind (arith, common_steps, get_or, get_or-map, length-map, map, map-set, map-take, set, take)

  pub map-swap_remove_at : (xs : List A) (i : ℕ) → map f (swap_remove_at xs i) ≡ swap_remove_at (map f xs) i
  map-swap_remove_at [] i = refl
  map-swap_remove_at (x ∷ xs) i = map-swap_remove (x ∷ xs) i x

module _ {X : Type 0} where
  pub length-swap_remove_at : (xs : List X) (i : ℕ) → 0 < length xs → length (swap_remove_at xs i) + 1 ≡ length xs
  length-swap_remove_at xs i some = grind (arith, common_steps)

  default_is : (xs : List X) (i : ℕ) (d e : X) → 0 < length xs → swap_remove xs i d ≡ swap_remove xs i e
  default_is xs i d e some = grind (arith, common_steps, get_or_default)

  -- the element, and then the others as they are left
  pub IsPermutation-swap_remove_at : (xs : List X) (i : ℕ) (x : X) → i < length xs → x ≡ get_or xs i x
      → IsPermutation xs (x ∷ swap_remove_at xs i)
  IsPermutation-swap_remove_at [] i x within is = absurd (omega arith)
  IsPermutation-swap_remove_at (y ∷ xs) i x within is =
      subst (λ l. IsPermutation (y ∷ xs) (x ∷ l)) (default_is (y ∷ xs) i x y (omega arith)) (IsPermutation-swap_remove (y ∷ xs) i x within is)

  -- distinct keys stay distinct if one is gone
  module _ (eq : X → X → Bool) (laws : IsEquivalence eq) where
    distinct_left : (ks left : List X) (i : ℕ) → i < length ks → ((x : X) → x ≡ get_or ks i x → IsPermutation ks (x ∷ left))
        → IsDistinct eq ks → IsDistinct eq left
    distinct_left [] left i within order distinct = absurd (omega arith)
    distinct_left (k ∷ ks) left i within order distinct =
        let x = get_or (k ∷ ks) i k in
        IsDistinct-tail eq x left (IsDistinct-IsPermutation eq laws.symm (k ∷ ks) (x ∷ left)
        (order x (get_or_default (k ∷ ks) i k x within)) distinct)

    pub IsDistinct-swap_remove_at : (ks : List X) (i : ℕ) → i < length ks → IsDistinct eq ks → IsDistinct eq (swap_remove_at ks i)
    IsDistinct-swap_remove_at ks i within = distinct_left ks _ i within (λ x. IsPermutation-swap_remove_at ks i x within)

    pub IsDistinct-remove : (ks : List X) (i : ℕ) → i < length ks → IsDistinct eq ks → IsDistinct eq (remove ks i)
    IsDistinct-remove ks i within = distinct_left ks _ i within (λ x. IsPermutation-remove ks i x within)

module _ {X : Type 0} where
  -- an element that is taken out may be another
  pub swap_remove_at-set : (xs : List X) (i : ℕ) (a : X) → swap_remove_at (set xs i a) i ≡ swap_remove_at xs i
  swap_remove_at-set xs i a = grind (arith, common_steps, get_or-set_other, get_or_default, length-set, set-set, take-set-le)

module _ {K V : Type 0} where
  set_value_at-set : (ps : List (K × V)) (i : ℕ) (v : V) (d : K × V) → set_value_at ps i v ≡ set ps i ((get_or ps i d).0, v)
  set_value_at-set [] i v d = refl
  set_value_at-set (p ∷ ps) i v d = grind (arith, common_steps, set_value_at-set ps)

  -- a pair that is taken out may have another value
  pub swap_remove_at-set_value_at : (ps : List (K × V)) (i : ℕ) (v : V) → swap_remove_at (set_value_at ps i v) i ≡ swap_remove_at ps i
  swap_remove_at-set_value_at [] i v = refl
  swap_remove_at-set_value_at (p ∷ ps) i v = rw (set_value_at-set (p ∷ ps) i v p) (swap_remove_at-set (p ∷ ps) i _)

  -- a value that is written again
  pub set_value_at-twice : (ps : List (K × V)) (i : ℕ) (v w : V) → set_value_at (set_value_at ps i v) i w ≡ set_value_at ps i w
  set_value_at-twice [] i v w = refl
  set_value_at-twice (p ∷ ps) i v w = grind (arith, common_steps, set_value_at-twice ps)

  -- the value that was written
  pub value-set_value_at : (ps : List (K × V)) (i : ℕ) (v : V) → i < length ps → slice_get (values_of (set_value_at ps i v)) i ≡ Some v
  value-set_value_at [] i v within = absurd (omega arith)
  value-set_value_at (p ∷ ps) zero v within = refl
  value-set_value_at (p ∷ ps) (suc i) v within = value-set_value_at ps i v (omega arith)

  -- the pair that was just appended
  pub set_value_at-last : (ps : List (K × V)) (k : K) (v w : V) → set_value_at (ps ++ (k, v) ∷ []) (length ps) w ≡ ps ++ (k, w) ∷ []
  set_value_at-last [] k v w = refl
  set_value_at-last (p ∷ ps) k v w = ap (λ l. p ∷ l) (set_value_at-last ps k v w)

  -- the key of a pair
  pub key_of-pair : (ps : List (K × V)) (i : ℕ) → slice_get (keys_of ps) i ≡ option_map (λ (p : K × V). p.0) (slice_get ps i)
  key_of-pair = slice_get-map (λ p. p.0)

  -- the value of a pair
  pub value_of-pair : (ps : List (K × V)) (i : ℕ) → slice_get (values_of ps) i ≡ option_map (λ (p : K × V). p.1) (slice_get ps i)
  value_of-pair = slice_get-map (λ p. p.1)

  pub pair-last : (ps : List (K × V)) (p : K × V) → slice_get (ps ++ p ∷ []) (length ps) ≡ Some p
  pair-last ps p = grind (arith, common_steps, slice_get_cases)

  pub value-last : (ps : List (K × V)) (k : K) (v : V) → slice_get (values_of (ps ++ (k, v) ∷ [])) (length ps) ≡ Some v
  value-last ps k v = grind (arith, common_steps, pair-last ps (k, v), value_of-pair (ps ++ (k, v) ∷ []) (length ps))

  pub key-last : (ps : List (K × V)) (k : K) (v : V) → slice_get (keys_of (ps ++ (k, v) ∷ [])) (length ps) ≡ Some k
  key-last ps k v = grind (arith, common_steps, pair-last ps (k, v), key_of-pair (ps ++ (k, v) ∷ []) (length ps))

module _ {K V : Type 0} where
  -- only this key changes
  pub keys_of-set_key_at : (ps : List (K × V)) (i : ℕ) (k : K) → keys_of (set_key_at ps i k) ≡ set (keys_of ps) i k
  keys_of-set_key_at [] i k = refl
  keys_of-set_key_at (p ∷ ps) i k = grind (arith, common_steps, keys_of-set_key_at ps)

  -- the values stay
  pub values_of-set_key_at : (ps : List (K × V)) (i : ℕ) (k : K) → values_of (set_key_at ps i k) ≡ values_of ps
  values_of-set_key_at [] i k = refl
  values_of-set_key_at (p ∷ ps) i k = grind (arith, common_steps, values_of-set_key_at ps)

  -- the key that was written
  pub key-set_key_at : (ps : List (K × V)) (i : ℕ) (k : K) → i < length ps → slice_get (keys_of (set_key_at ps i k)) i ≡ Some k
  key-set_key_at [] i k within = absurd (omega arith)
  key-set_key_at (p ∷ ps) zero k within = refl
  key-set_key_at (p ∷ ps) (suc i) k within = key-set_key_at ps i k (omega arith)

  -- the pair at the index is set
  set_key_at-set : (ps : List (K × V)) (i : ℕ) (k : K) (d : K × V) → set_key_at ps i k ≡ set ps i (k, (get_or ps i d).1)
  set_key_at-set [] i k d = refl
  set_key_at-set (p ∷ ps) i k d = grind (arith, common_steps, set_key_at-set ps)

  -- a pair that is taken out may have another key
  pub swap_remove_at-set_key_at : (ps : List (K × V)) (i : ℕ) (k : K) → swap_remove_at (set_key_at ps i k) i ≡ swap_remove_at ps i
  swap_remove_at-set_key_at [] i k = refl
  swap_remove_at-set_key_at (p ∷ ps) i k = rw (set_key_at-set (p ∷ ps) i k p) (swap_remove_at-set (p ∷ ps) i _)

-- an element is replaced by one that f cannot tell from it
pub map-set_alike : {A B : Type 0} (f : A → B) (xs : List A) (i : ℕ) (old new : A) → slice_get xs i ≡ Some old → f old ≡ f new
    → map f (set xs i new) ≡ map f xs
map-set_alike f [] i old new at alike = refl
map-set_alike f (x ∷ xs) i old new at alike = grind (arith, common_steps, map-set_alike f xs)

-- P stays true of each element if it goes over from the old one to the new
all-set : {A : Type 0} (P : A → Type 0) (xs : List A) (i : ℕ) (old new : A) → slice_get xs i ≡ Some old → (P old → P new)
    → AllByRecursion P xs → AllByRecursion P (set xs i new)
all-set P [] i old new at over all = all
all-set P (x ∷ xs) zero old new at over all = (over (subst P (same_Some x old at) all.0), all.1)
all-set P (x ∷ xs) (suc i) old new at over all = (all.0, all-set P xs i old new at over all.1)

module _ {A : Type 0} where
  -- if P gives Q, all that P holds of is what Q holds of
  all-map : (P Q : A → Type 0) → ((y : A) → P y → Q y) → (xs : List A) → AllByRecursion P xs → AllByRecursion Q xs
  all-map P Q over [] all = all
  all-map P Q over (x ∷ xs) all = (over x all.0, all-map P Q over xs all.1)

-- distinct keys stay distinct if one is replaced by its equal
pub IsDistinct-set : {K : Type 0} (eq : K → K → Bool) → IsEquivalence eq → (old new : K) → eq old new ≡ true → (ks : List K) (i : ℕ)
    → slice_get ks i ≡ Some old → IsDistinct eq ks → IsDistinct eq (set ks i new)
unfolding IsDistinct
IsDistinct-set eq laws old new same [] i at distinct = distinct
IsDistinct-set {K = K} eq laws old new same (k ∷ ks) zero at distinct =
    let alike : (y : K) → eq k y ≡ false → eq new y ≡ false = λ y. grind (arith, common_steps, laws.congr old new y same, same_Some k old at) in
    (all-map (λ y. eq k y ≡ false) (λ y. eq new y ≡ false) alike ks distinct.0, distinct.1)
IsDistinct-set eq laws old new same (k ∷ ks) (suc i) at distinct =
    let over : eq k old ≡ false → eq k new ≡ false = λ apart. laws.symm k new ∙ sym (laws.congr old new k same) ∙ laws.symm old k ∙ apart in
    (all-set (λ y. eq k y ≡ false) ks i old new at over distinct.0, IsDistinct-set eq laws old new same ks i at distinct.1)

-- what holds of each element holds of this one
all-at : {A : Type 0} (P : A → Type 0) (xs : List A) (i : ℕ) (x : A) → slice_get xs i ≡ Some x → AllByRecursion P xs → P x
all-at P [] i x at all = cc
all-at P (y ∷ ys) zero x at all = subst P (same_Some y x at) all.0
all-at P (y ∷ ys) (suc i) x at all = all-at P ys i x at all.1

-- a key that equals the one that is there
pub equal_at : {K : Type 0} (eq : K → K → Bool) → IsEquivalence eq → (old new : K) {at : Option K} → at ≡ Some old
    → IfSome at (λ k. eq new k ≡ true) → eq old new ≡ true
equal_at eq laws old new is same = laws.symm old new ∙ subst (λ k. IfSome k (λ k. eq new k ≡ true)) is same

module _ {K : Type 0} (eq : K → K → Bool) (laws : IsEquivalence eq) (old new : K) (same : eq old new ≡ true) where
  -- a key equals both of them, or neither
  alike : (q : K) → eq q new ≡ eq q old
  alike q = laws.symm q new ∙ sym (laws.congr old new q same) ∙ laws.symm old q

module _ {K V : Type 0} (eq : K → K → Bool) (laws : IsEquivalence eq) (old new : K) (same : eq old new ≡ true) where
  -- each key keeps its value
  value_of-set_key_at : (ps : List (K × V)) (i : ℕ) → slice_get (keys_of ps) i ≡ Some old → (q : K)
      → value_of eq (set_key_at ps i new) q ≡ value_of eq ps q
  value_of-set_key_at [] i at q = refl
  value_of-set_key_at (p ∷ ps) zero at q = grind (arith, common_steps, alike, same_Some)
  value_of-set_key_at (p ∷ ps) (suc i) at q = grind (arith, common_steps, value_of-set_key_at ps i at q)

  -- each other key keeps its pair
  stored_pair_of-set_key_at : (ps : List (K × V)) (i : ℕ) → slice_get (keys_of ps) i ≡ Some old → (q : K) → eq new q ≡ false
      → stored_pair_of eq (set_key_at ps i new) q ≡ stored_pair_of eq ps q
  stored_pair_of-set_key_at [] i at q other = refl
  stored_pair_of-set_key_at (p ∷ ps) zero at q other = grind (arith, common_steps, alike, same_Some)
  stored_pair_of-set_key_at (p ∷ ps) (suc i) at q other = grind (arith, common_steps, stored_pair_of-set_key_at ps i at q other)

  -- the pair of the key is the key itself with the value that was there
  stored_pair_of-set_key_same : (ps : List (K × V)) (i : ℕ) → slice_get (keys_of ps) i ≡ Some old → IsDistinct eq (keys_of ps)
      → stored_pair_of eq (set_key_at ps i new) new ≡ option_map (λ v. (new, v)) (value_of eq ps new)
  unfolding IsDistinct
  stored_pair_of-set_key_same [] i at distinct = cc
  stored_pair_of-set_key_same (p ∷ ps) zero at distinct = grind (arith, common_steps, alike eq laws old new same new, laws.refl new, same_Some p.0 old at)
  stored_pair_of-set_key_same (p ∷ ps) (suc i) at distinct =
      let apart = all-at (λ y. eq p.0 y ≡ false) (keys_of ps) i old at distinct.0 in
      grind (arith, common_steps, alike eq laws old new same p.0, laws.symm new p.0, stored_pair_of-set_key_same ps i at distinct.1)

  -- what callers read off the pairs
  pub has_key_replaced : (ps : List (K × V)) (i : ℕ) → slice_get (keys_of ps) i ≡ Some old → IsDistinct eq (keys_of ps)
      → HasKeyReplaced eq ps new (set_key_at ps i new)
  has_key_replaced ps i at distinct =
      grind (
        arith,
        common_steps,
        length-set_key_at,
        stored_pair_of-set_key_at,
        stored_pair_of-set_key_same,
        value_of-set_key_at,
        values_of-set_key_at,
      )

pub map-remove : {A B : Type 0} (f : A → B) (xs : List A) (i : ℕ) → map f (remove xs i) ≡ remove (map f xs) i
map-remove f [] zero = refl
map-remove f [] (suc i) = refl
map-remove f (x ∷ xs) zero = refl
map-remove f (x ∷ xs) (suc i) = ap (λ l. f x ∷ l) (map-remove f xs i)

module _ {K V : Type 0} (test : K → Bool) where
  remove_first : (ps : List (K × V)) (i : ℕ) → IsFirst test (keys_of ps) i → remove_entry test ps ≡ remove ps i
  remove_first [] i first = absurd first
  remove_first (p ∷ ps) zero first = grind (arith, common_steps)
  remove_first (p ∷ ps) (suc i) first = grind (arith, common_steps, remove_first ps i first.1)

  -- from what a search for the key returned
  pub remove_found : (ps : List (K × V)) (i : ℕ) → index_of test (keys_of ps) ≡ Some i → remove_entry test ps ≡ remove ps i
  remove_found ps i found = remove_first ps i (first_of_index test (keys_of ps) i found)

  pub remove_absent : (ps : List (K × V)) → index_of test (keys_of ps) ≡ None → remove_entry test ps ≡ ps
  remove_absent [] absent = refl
  remove_absent (p ∷ ps) absent = grind (arith, common_steps, remove_absent ps)
