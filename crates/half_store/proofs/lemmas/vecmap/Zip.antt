-- Two columns side by side as one list of pairs: lemmas of std, and what they leave out.
use Rattle.half_store.proofs.Common.{◌≡◌, length, take, ◌++◌, refl, ◌∙◌, arith, ℕ, zero, suc, ap, List, [], ◌∷◌, common_steps, take_all, get_or_default}
use Rattle.half_store.proofs.Common.{swap_remove, remove, zip, set_values, swap_remove_at}
use Rattle.std_collections.proofs.Zip.{zip-append, zip-swap_remove}
pub use Rattle.std_collections.proofs.Zip.{length-zip_even, slice_get-zip, zip-take, zip-set, zip-set_value, zip-set_key, all_zip-zip, slice_get_at}
use Rattle.std.proofs.Math.ListN.{set}
use Rattle.std.specs.List.{refill}

-- a swap removal does not depend on the default
pub swap_remove_at_is : {X : Type 0} (xs : List X) (i : ℕ) (d : X) → swap_remove xs i d ≡ swap_remove_at xs i
swap_remove_at_is [] i d = refl
swap_remove_at_is (x ∷ xs) i d = grind (arith, common_steps, get_or_default, set, take)

module _ {K V : Type 0} where
  pub zip_push : (ks : List K) (vs : List V) (k : K) (v : V) → length vs ≡ length ks
      → zip (ks ++ k ∷ []) (vs ++ v ∷ []) ≡ zip ks vs ++ (k, v) ∷ []
  zip_push ks vs k v even = zip-append ks vs (k ∷ []) (v ∷ []) even

  -- values that are written, one after the other
  pub zip-refill : (ks : List K) (vs ws : List V) → length vs ≡ length ks → zip ks (refill (length vs) vs ws) ≡ set_values (zip ks vs) ws
  zip-refill [] vs ws even = refl
  zip-refill (k ∷ ks) [] ws even = absurd (omega arith)
  zip-refill (k ∷ ks) (v ∷ vs) [] even = ap (λ l. (k, v) ∷ zip ks l) (take_all (length vs) vs (omega arith))
  zip-refill (k ∷ ks) (v ∷ vs) (w ∷ ws) even = ap (λ l. (k, w) ∷ l) (zip-refill ks vs ws (omega arith))

  -- a swap removal in each column is one in the list of pairs
  pub zip-swap_remove_at : (ks : List K) (vs : List V) (i : ℕ) (k : K) (v : V) → length vs ≡ length ks
      → zip (swap_remove ks i k) (swap_remove vs i v) ≡ swap_remove_at (zip ks vs) i
  zip-swap_remove_at ks vs i k v even = zip-swap_remove ks vs i k v even ∙ swap_remove_at_is (zip ks vs) i (k, v)

  -- and so is a removal that keeps the order
  pub zip-remove : (ks : List K) (vs : List V) (i : ℕ) → length vs ≡ length ks → zip (remove ks i) (remove vs i) ≡ remove (zip ks vs) i
  zip-remove [] [] zero even = refl
  zip-remove [] [] (suc i) even = refl
  zip-remove [] (w ∷ vs) i even = absurd (omega arith)
  zip-remove (k ∷ ks) [] i even = absurd (omega arith)
  zip-remove (k ∷ ks) (v ∷ vs) zero even = refl
  zip-remove (k ∷ ks) (v ∷ vs) (suc i) even = ap (λ l. (k, v) ∷ l) (zip-remove ks vs i (omega arith))
