-- What a put, and a set value, are for the key that passes a test.
use Rattle.halfbrown.proofs.Common.{◌≡◌, ℕ, Bool, true, arith, suc, List, [], ◌∷◌, slice_get, ap, ◌∙◌, sym, subst, IfSome, zero, common_steps}
use Rattle.halfbrown.proofs.Common.{IsEquivalence, set_value_at, KeyFoundAt, HasPut}
use Rattle.halfbrown.specs.Pairs.{IsQuery, put_by}
use Rattle.halfbrown.specs.Updates.{HasSetBy}
use Rattle.halfbrown.proofs.callers.Pairs.{has_put, passing}
use Rattle.halfbrown.proofs.lemmas.pairs.Indices.{IsFirst}

module _ {K : Type 0} (eq : K → K → Bool) (laws : IsEquivalence eq) (test : K → Bool)
    (one_class : IsQuery eq test) where
  -- a key that passes is put as the key itself is
  pub has_put_by : {V : Type 0} (ps qs : List (K × V)) (k : K) (v : V) → qs ≡ put_by test ps k v → test k ≡ true → HasPut eq ps k v qs
  has_put_by ps qs k v is passes =
      subst (HasPut eq ps k v) (ap (λ (t : K → Bool). put_by t ps k v) (λ i x. sym (one_class k x passes) i) ∙ sym is)
      (has_put eq laws ps k v)

  pub passes_at : (ks : List K) (i : ℕ) → IsFirst test ks i → IfSome (slice_get ks i) (λ k. test k ≡ true)
  passes_at [] i first = absurd first
  passes_at (k ∷ ks) zero first = first
  passes_at (k ∷ ks) (suc i) first = passes_at ks i first.1

  -- the value of the key that was found is set
  pub has_set_by : {V : Type 0} (ps : List (K × V)) (i : ℕ) (v : V) → KeyFoundAt test ps i → HasSetBy eq test ps v (set_value_at ps i v)
  has_set_by ps i v at =
      let found = passing eq laws test ps i at in
      let key = found.0.0 in
      let put = has_put_by ps (set_value_at ps i v) key v (sym (at.put_is key v)) found.2 in
      let same_test : eq key ≡ test = λ i x. sym (one_class key x found.2) i in
      grind (arith, common_steps, same_test)
