-- Sums over numbers and over lists.
use Rattle.std.proofs.Common.{◌≡◌, ℕ, zero, suc, ◌+◌, ◌*◌, ◌^◌, ◌<◌, ◌≤◌, refl, sym, ap, ◌∙◌, arith, List, [], ◌∷◌, length, sum_by, IsPermutation}
use Rattle.std.proofs.Math.Nat.{pow-zero, pow-succ', mul_assoc}
use Rattle.std.proofs.lemmas.Grind.{common_steps}
use Rattle.std.proofs.lemmas.List.Sorted.{IsPermutation-cons, IsPermutation-swap}
use Rattle.std.proofs.lemmas.List.Sums.{sum_by-cons}
pub use Rattle.half_store.proofs.lemmas.table.Sums.{below-same, below-plus, below-const, below-swap, below-first}
use Rattle.half_mean.specs.Mean.{sum_below, sum_lists}

pub below-times : (m c : ℕ) (f : ℕ → ℕ) → sum_below m (λ k. c * f k) ≡ c * sum_below m f
below-times zero c f = omega arith
below-times (suc m) c f = grind (arith, common_steps, below-times m c f)

pub below-le : (m : ℕ) (f g : ℕ → ℕ) → ((k : ℕ) → k < m → f k ≤ g k) → sum_below m f ≤ sum_below m g
below-le zero f g h = omega arith
below-le (suc m) f g h = omega (arith, h m (omega arith), below-le m f g (λ k l. h k (omega arith)))

pub lists-same : (m n : ℕ) (f g : List ℕ → ℕ) → ((list : List ℕ) → length list ≡ n → f list ≡ g list) → sum_lists m n f ≡ sum_lists m n g
lists-same m zero f g h = h [] refl
lists-same m (suc n) f g h =
    below-same m _ _ (λ x l. lists-same m n (λ w. f (x ∷ w)) (λ w. g (x ∷ w)) (λ w e. h (x ∷ w) (ap suc e)))

pub lists-le : (m n : ℕ) (f g : List ℕ → ℕ) → ((list : List ℕ) → length list ≡ n → f list ≤ g list) → sum_lists m n f ≤ sum_lists m n g
lists-le m zero f g h = h [] refl
lists-le m (suc n) f g h =
    below-le m _ _ (λ x l. lists-le m n (λ w. f (x ∷ w)) (λ w. g (x ∷ w)) (λ w e. h (x ∷ w) (ap suc e)))

pub lists-plus : (m n : ℕ) (f g : List ℕ → ℕ) → sum_lists m n (λ w. f w + g w) ≡ sum_lists m n f + sum_lists m n g
lists-plus m zero f g = refl
lists-plus m (suc n) f g =
    ap (sum_below m) (λ i x. lists-plus m n (λ w. f (x ∷ w)) (λ w. g (x ∷ w)) i)
    ∙ below-plus m (λ x. sum_lists m n (λ w. f (x ∷ w))) (λ x. sum_lists m n (λ w. g (x ∷ w)))

pub lists-times : (m n c : ℕ) (f : List ℕ → ℕ) → sum_lists m n (λ w. c * f w) ≡ c * sum_lists m n f
lists-times m zero c f = refl
lists-times m (suc n) c f =
    ap (sum_below m) (λ i x. lists-times m n c (λ w. f (x ∷ w)) i) ∙ below-times m c (λ x. sum_lists m n (λ w. f (x ∷ w)))

pub lists-const : (m n c : ℕ) → sum_lists m n (λ w. c) ≡ m ^ n * c
lists-const m zero c = rw (pow-zero m) (omega arith)
lists-const m (suc n) c = ap (sum_below m) (λ i x. lists-const m n c i) ∙ below-const m (m ^ n * c) ∙ sym (mul_assoc m (m ^ n) c)
    ∙ ap (λ s. s * c) (sym (pow-succ' m n))

pub lists-swap : (m n k : ℕ) (f : List ℕ → ℕ → ℕ)
    → sum_lists m n (λ w. sum_below k (λ h. f w h)) ≡ sum_below k (λ h. sum_lists m n (λ w. f w h))
lists-swap m zero k f = refl
lists-swap m (suc n) k f =
    ap (sum_below m) (λ i x. lists-swap m n k (λ w. f (x ∷ w)) i)
    ∙ below-swap m k (λ x h. sum_lists m n (λ w. f (x ∷ w) h))

-- the sum over the entries of a list, of sums
pub entries-swap : (m : ℕ) (f : ℕ → ℕ → ℕ) (w : List ℕ)
    → sum_by (λ x. sum_below m (λ h. f x h)) w ≡ sum_below m (λ h. sum_by (λ x. f x h) w)
entries-swap m f [] = sym (below-const m 0 ∙ omega arith)
entries-swap m f (x ∷ w) =
    sum_by-cons (λ y. sum_below m (f y)) x w ∙ ap (λ s. sum_below m (f x) + s) (entries-swap m f w)
    ∙ sym (below-plus m (f x) (λ h. sum_by (λ y. f y h) w))
    ∙ sym (ap (sum_below m) (λ i h. sum_by-cons (λ y. f y h) x w i))

-- what does not depend on the order of a list
abbrev pub IsOrderFree : (ℕ → List ℕ → ℕ) → Type 0
IsOrderFree g = (x : ℕ) (some others : List ℕ) → IsPermutation some others → g x some ≡ g x others

front-swap : (x y : ℕ) (w : List ℕ) → IsPermutation (y ∷ x ∷ w) (x ∷ y ∷ w)
front-swap x y w = IsPermutation-swap (y ∷ x ∷ w) (x ∷ y ∷ w) 0 1 (omega arith) (omega arith) refl

-- the sum over all lists and their entries
abbrev pub with_entry : ℕ → ℕ → (ℕ → List ℕ → ℕ) → ℕ
with_entry m n g = sum_lists m (suc n) (λ w. sum_by (λ x. g x w) w)

-- and that over all lists and their first entries
abbrev pub with_first : ℕ → ℕ → (ℕ → List ℕ → ℕ) → ℕ
with_first m n g = sum_below m (λ x. sum_lists m n (λ w. g x (x ∷ w)))

module _ (m n : ℕ) (g : ℕ → List ℕ → ℕ) (free : IsOrderFree g) where
  abbrev behind : ℕ → ℕ → List ℕ → ℕ
  behind y x w = g x (y ∷ w)

  behind-free : (y : ℕ) → IsOrderFree (behind y)
  behind-free y x some others p = free x (y ∷ some) (y ∷ others) (IsPermutation-cons y some others p)

  -- an entry that comes second may as well come first
  second-first : sum_below m (λ y. with_first m n (behind y)) ≡ with_first m (suc n) g
  second-first =
      below-swap m m (λ y x. sum_lists m n (λ w. g x (y ∷ x ∷ w)))
      ∙ ap (sum_below m) (λ i x. sum_below m (λ y. sum_lists m n (λ w. free x (y ∷ x ∷ w) (x ∷ y ∷ w) (front-swap x y w) i)))

  -- the first entry and the others
  entries-split : with_entry m (suc n) g ≡ with_first m (suc n) g + sum_below m (λ y. with_entry m n (behind y))
  entries-split =
      ap (sum_below m) (λ i y. sum_lists m (suc n) (λ w. sum_by-cons (λ x. g x (y ∷ w)) y w i))
      ∙ ap (sum_below m) (λ i y. lists-plus m (suc n) (λ w. g y (y ∷ w)) (λ w. sum_by (λ x. g x (y ∷ w)) w) i)
      ∙ below-plus m (λ y. sum_lists m (suc n) (λ w. g y (y ∷ w))) (λ y. with_entry m n (behind y))

-- an entry stands in each place as often as in the first
pub exchange : (m n : ℕ) (g : ℕ → List ℕ → ℕ) → IsOrderFree g → with_entry m n g ≡ suc n * with_first m n g
exchange m zero g free =
    let alone : with_entry m 0 g ≡ with_first m 0 g = below-same m (λ x. sum_by (λ y. g y (x ∷ [])) (x ∷ [])) (λ x. g x (x ∷ []))
    (λ x l. let one = sum_by-cons (λ y. g y (x ∷ [])) x [] in omega arith) in
    omega arith
exchange m (suc n) g free =
    let rest : sum_below m (λ y. with_entry m n (behind m n g free y)) ≡ suc n * with_first m (suc n) g =
    ap (sum_below m) (λ i y. exchange m n (behind m n g free y) (behind-free m n g free y) i)
    ∙ below-times m (suc n) (λ y. with_first m n (behind m n g free y)) ∙ ap (λ s. suc n * s) (second-first m n g free) in
    entries-split m n g free ∙ ap (λ s. with_first m (suc n) g + s) rest ∙ omega arith
