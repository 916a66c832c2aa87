-- A list from which one element was taken, and to which another came in its place.
use Rattle.half_store.proofs.Common.{◌≡◌, length, ◌++◌, inr, ◌∙◌, arith, ℕ, ◌-◌, ◌<◌, inl, sym, List, [], ◌∷◌, set, cases_eq}
use Rattle.half_store.proofs.Common.{length-set, swap_remove}
use Rattle.std.proofs.lemmas.List.{ext_get_or}
use Rattle.std.specs.List.{SwappedAt}
use Rattle.half_store.proofs.Common.{common_steps}

-- the last element took the place of one, the new one was appended, and these two were swapped
pub restored : {X : Type 0} (xs ys zs : List X) (i : ℕ) (v w : X) → i < length xs → ys ≡ swap_remove xs i v ++ w ∷ []
    → SwappedAt ys zs i (length xs - 1) → length zs ≡ length xs → zs ≡ set xs i w
restored xs ys zs i v w within is swapped long =
    ext_get_or w zs (set xs i w) (long ∙ sym (length-set xs i w)) (λ j l.
    elim (cases_eq j i) [
      | inl at ↦ grind (arith, common_steps, swapped.0 w)
      | inr off ↦ elim (cases_eq j (length xs - 1)) [
        | inl end ↦ grind (arith, common_steps, swapped.1 w)
        | inr mid ↦ grind (arith, common_steps, swapped.2 j w off mid)
      ]
    ])
