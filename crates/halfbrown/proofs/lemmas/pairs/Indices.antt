-- Where a key stands among pairs of distinct keys, and what that says of reading and changing them.
use Rattle.halfbrown.specs.Pairs.{IsQuery}
use Rattle.halfbrown.proofs.Common.{◌≡◌, ℕ, ◌<◌, Bool, true, false, length, arith, suc, List, [], ◌∷◌, ◌++◌, take, get_or, slice_get, Some, refl, ap, ◌∙◌, None}
use Rattle.halfbrown.proofs.Common.{is_some, sym, ◌-◌, zero, common_steps, slice_get_within, get_or_from_slice_get, slice_get-map, slice_get_cases}
use Rattle.halfbrown.proofs.Common.{IsEquivalence, IsDistinct, keys_of, lookup, lookup_entry, option_map, index_of, swap_remove_at, KeyFoundAt, KeyMissing}
use Rattle.halfbrown.proofs.Common.{holds_by}
use Rattle.std.proofs.lemmas.List.{take-set-le}
use Rattle.std.specs.List.{list_any}
use Rattle.std.proofs.lemmas.Map.Keys.{apart_from_distinct}
use Rattle.std.proofs.lemmas.Map.Made.{is_some-lookup}
use Rattle.std.proofs.Math.Seq.{take-suc, take-length}

module _ {K : Type 0} (test : K → Bool) where
  -- the key at the index is the first that passes
  abbrev pub IsFirst : List K → ℕ → Type 0
  IsFirst [] i = ⊥
  IsFirst (k ∷ ks) zero = test k ≡ true
  IsFirst (k ∷ ks) (suc i) = (test k ≡ false) × IsFirst ks i

  pub first_of_index : (ks : List K) (i : ℕ) → index_of test ks ≡ Some i → IsFirst ks i
  first_of_index [] i e = absurd cc
  first_of_index (k ∷ ks) i e = grind (arith, common_steps, first_of_index ks)

  -- no key passes
  pub none_of_index : (ks : List K) → index_of test ks ≡ None → list_any test ks ≡ false
  none_of_index [] e = refl
  none_of_index (k ∷ ks) e = grind (arith, common_steps, none_of_index ks)

  pub first_within : (ks : List K) (i : ℕ) → IsFirst ks i → i < length ks
  first_within [] i f = absurd f
  first_within (k ∷ ks) zero f = omega arith
  first_within (k ∷ ks) (suc i) f = let more = first_within ks i f.1 in omega arith

  pub first_passes : (ks : List K) (i : ℕ) (d : K) → IsFirst ks i → test (get_or ks i d) ≡ true
  first_passes [] i d f = absurd f
  first_passes (k ∷ ks) zero d f = f
  first_passes (k ∷ ks) (suc i) d f = first_passes ks i d f.1

  -- from the test by indices
  pub first_at : (ks : List K) (i : ℕ) (d : K) → i < length ks → test (get_or ks i d) ≡ true
      → ((j : ℕ) → j < i → test (get_or ks j d) ≡ false) → IsFirst ks i
  first_at [] i d within here before = absurd (omega arith)
  first_at (k ∷ ks) zero d within here before = here
  first_at (k ∷ ks) (suc i) d within here before =
      (before 0 (omega arith), first_at ks i d (omega arith) here (λ j h. before (suc j) (omega arith)))

  pub none_at : (ks : List K) → ((j : ℕ) (d : K) → j < length ks → test (get_or ks j d) ≡ false) → list_any test ks ≡ false
  none_at [] fails = refl
  none_at (k ∷ ks) fails =
      grind (arith, common_steps, fails 0 k (omega arith), none_at ks (λ j d h. fails (suc j) d (omega arith)))

module _ {K V : Type 0} (test : K → Bool) where
  -- the value of the first pair that passes
  pub value_of_entry : (ps : List (K × V)) → option_map (λ q. q.1) (lookup_entry test ps) ≡ lookup test ps
  value_of_entry [] = refl
  value_of_entry (p ∷ ps) = grind (arith, common_steps, value_of_entry ps)

  pub index_of_first : (ps : List (K × V)) (i : ℕ) → IsFirst test (keys_of ps) i → KeyFoundAt test ps i
  index_of_first [] i f = absurd f
  index_of_first (p ∷ ps) zero f = grind (arith, common_steps)
  index_of_first (p ∷ ps) (suc i) f = grind (arith, common_steps, index_of_first ps i f.1)

  pub absent_of_none : (ps : List (K × V)) → list_any test (keys_of ps) ≡ false → KeyMissing test ps
  absent_of_none [] none = grind (arith, common_steps)
  absent_of_none (p ∷ ps) none = grind (arith, common_steps, absent_of_none ps)

  -- if no key that passes is held
  pub absent_of_unheld : (ps : List (K × V)) → holds_by test ps ≡ false → KeyMissing test ps
  absent_of_unheld ps h = absent_of_none ps (sym (is_some-lookup test ps) ∙ h)

  -- from the index of the first key that passes
  pub index_found : (ps : List (K × V)) (i : ℕ) → Some i ≡ index_of test (keys_of ps) → KeyFoundAt test ps i
  index_found ps i e = index_of_first ps i (first_of_index test (keys_of ps) i (sym e))

  pub absent_of_index : (ps : List (K × V)) → None ≡ index_of test (keys_of ps) → KeyMissing test ps
  absent_of_index ps e = absent_of_none ps (none_of_index test (keys_of ps) (sym e))

  -- a pair behind pairs whose keys do not pass
  pub index_of-added : (ps : List (K × V)) (k : K) (v : V) → index_of test (keys_of ps) ≡ None → test k ≡ true
      → index_of test (keys_of (ps ++ (k, v) ∷ [])) ≡ Some (length ps)
  index_of-added [] k v none passes = grind (arith, common_steps)
  index_of-added (p ∷ ps) k v none passes = grind (arith, common_steps, index_of-added ps k v)

  -- an index is found exactly if a key that passes is held
  pub found_where_held : (ps : List (K × V)) → is_some (index_of test (keys_of ps)) ≡ holds_by test ps
  found_where_held [] = refl
  found_where_held (p ∷ ps) = grind (arith, common_steps, found_where_held ps)

module _ {K : Type 0} (test : K → Bool) (eq : K → K → Bool) (one_class : IsQuery eq test) where
  apart : (ks : List K) → IsDistinct eq ks → (i j : ℕ) (d : K) → j < i → i < length ks → test (get_or ks i d) ≡ true
      → test (get_or ks j d) ≡ false
  apart ks distinct i j d before within at = grind (arith, common_steps, one_class (get_or ks j d) (get_or ks i d), apart_from_distinct eq ks j i d distinct)

  -- an index whose key passes is the first, and the only one
  pub first_of_match : (ks : List K) (i : ℕ) (d : K) → IsDistinct eq ks → i < length ks → test (get_or ks i d) ≡ true → IsFirst test ks i
  first_of_match ks i d distinct within at =
      first_at test ks i d within at (λ j before. apart ks distinct i j d before within at)

  -- the same, from what a search among the keys of one hash says of the index that it found
  pub first_matched : (ks : List K) (i : ℕ) → IsDistinct eq ks → i < length ks → ((d : K) → true ≡ test (get_or ks i d))
      → IsFirst test ks i
  first_matched [] i distinct within accepted = absurd (omega arith)
  first_matched (k ∷ ks) i distinct within accepted = first_of_match (k ∷ ks) i k distinct within (sym (accepted k))

module _ {K V : Type 0} (eq : K → K → Bool) (laws : IsEquivalence eq) where
  -- if keys are distinct, a pair is at the index of its key
  pub index_of_pair : (ps : List (K × V)) (i : ℕ) (pair : K × V) → IsDistinct eq (keys_of ps) → slice_get ps i ≡ Some pair
      → KeyFoundAt (eq pair.0) ps i
  index_of_pair ps i pair distinct at =
      let key : slice_get (keys_of ps) i ≡ Some pair.0 = slice_get-map (λ p. p.0) ps i ∙ ap (option_map (λ (p : K × V). p.0)) at in
      index_of_first (eq pair.0) ps i
      (first_matched (eq pair.0) eq (λ k other alike. laws.congr pair.0 k other alike) (keys_of ps) i distinct
      (slice_get_within (keys_of ps) i pair.0 key)
      (λ d. sym (laws.refl pair.0) ∙ ap (eq pair.0) (sym (get_or_from_slice_get (keys_of ps) i pair.0 d key))))

module _ {X : Type 0} where
  -- if the last element is taken out, the others stay as they are
  pub last_taken : (xs : List X) (x : X) → slice_get xs (length xs - 1) ≡ Some x → xs ≡ swap_remove_at xs (length xs - 1) ++ x ∷ []
  last_taken xs x at = grind (arith, common_steps, get_or, get_or_from_slice_get, take, take-length, take-set-le, take-suc)

  -- there is an element at each index below their number
  pub some_is_not_none : (xs : List X) (i : ℕ) → i < length xs → slice_get xs i ≡ None → ⊥
  some_is_not_none xs i within none = grind (arith, common_steps, slice_get_cases)
