-- Sums over buckets, and counting those that pass a test.
use Rattle.half_store.proofs.Common.{◌≡◌, ◌≤◌, length, ◌+◌, ◌*◌, [], ◌∷◌, inr, refl, ◌∙◌, arith, ℕ, ◌-◌, ◌<◌, zero, suc, inl, sym, ap, Bool, List, get_or, ◌≢◌, true}
use Rattle.half_store.proofs.Common.{false, count_by, ◌⊎◌, cond, cases_eq, common_steps, sum_by-cons, probe_distance}
use Rattle.std.proofs.Common.{ltb}
use Rattle.std.proofs.Common.{min, sum_by}
use Rattle.half_store.specs.Work.{sum_below}
use Rattle.half_store.proofs.lemmas.table.Circle.{distance_is}
use Rattle.half_store.proofs.Common.{nat_tests}

-- Sums over the numbers below one.
pub below-same : (m : ℕ) (f g : ℕ → ℕ) → ((k : ℕ) → k < m → f k ≡ g k) → sum_below m f ≡ sum_below m g
below-same zero f g h = refl
below-same (suc m) f g h = grind (arith, common_steps, h m (omega arith), below-same m f g (λ k l. h k (omega arith)))

pub below-plus : (m : ℕ) (f g : ℕ → ℕ) → sum_below m (λ k. f k + g k) ≡ sum_below m f + sum_below m g
below-plus zero f g = refl
below-plus (suc m) f g = omega (arith, below-plus m f g)

pub below-const : (m c : ℕ) → sum_below m (λ k. c) ≡ m * c
below-const zero c = omega arith
below-const (suc m) c = grind (arith, common_steps, below-const m c)

pub below-swap : (m n : ℕ) (f : ℕ → ℕ → ℕ) → sum_below m (λ a. sum_below n (λ b. f a b)) ≡ sum_below n (λ b. sum_below m (λ a. f a b))
below-swap zero n f = sym (below-const n 0 ∙ omega arith)
below-swap (suc m) n f = ap (λ s. sum_below n (f m) + s) (below-swap m n f) ∙ sym (below-plus n (f m) (λ b. sum_below m (λ a. f a b)))

-- the last term of a sum is that of 0
pub below-first : (m : ℕ) (f : ℕ → ℕ) → sum_below (suc m) f ≡ f 0 + sum_below m (λ k. f (suc k))
below-first zero f = omega arith
below-first (suc m) f = omega (arith, below-first m f)

pub below-zero : (m : ℕ) (f : ℕ → ℕ) → ((k : ℕ) → k < m → f k ≡ 0) → sum_below m f ≡ 0
below-zero m f none = below-same m f (λ k. 0) none ∙ below-const m 0 ∙ omega arith

-- one term is no longer 0
pub below-more : (m x : ℕ) (f g : ℕ → ℕ) → x < m → f x ≡ 0 → ((k : ℕ) → k < m → k ≢ x → f k ≡ g k)
    → sum_below m g ≡ sum_below m f + g x
below-more zero x f g l none same = absurd (omega arith)
below-more (suc m) x f g l none same =
    elim (cases_eq x m) [
      | inl e ↦ omega (arith, below-same m f g (λ k l. same k (omega arith) (omega arith)), ap f e, ap g e)
      | inr ne ↦
          let own = same m (omega arith) (omega arith) in
          omega (arith, below-more m x f g (omega arith) none (λ k l. same k (omega arith)))
    ]

-- all terms but one are 0
pub below-one : (m x : ℕ) (f : ℕ → ℕ) → x < m → ((k : ℕ) → k < m → k ≢ x → f k ≡ 0) → sum_below m f ≡ f x
below-one m x f l none =
    let more = below-more m x (λ k. 0) f l refl (λ k l ne. sym (none k l ne)) in
    omega (arith, below-const m 0)

-- a sum over a list, by indices
pub sum_by-below : {X : Type 0} (f : X → ℕ) (xs : List X) (d : X) → sum_by f xs ≡ sum_below (length xs) (λ p. f (get_or xs p d))
sum_by-below f [] d = refl
sum_by-below f (x ∷ xs) d =
    sum_by-cons f x xs ∙ ap (λ s. f x + s) (sum_by-below f xs d) ∙ sym (below-first (length xs) (λ p. f (get_or (x ∷ xs) p d)))

-- 1 if a test passes
abbrev pub tick : Bool → ℕ
tick b = cond b 1 0

pub tick_yes : (b : Bool) → b ≡ true → tick b ≡ 1
tick_yes b e = rw e refl

pub tick_no : (b : Bool) → b ≡ false → tick b ≡ 0
tick_no b e = rw e refl

-- how many buckets below n pass
abbrev pub count_to : (ℕ → Bool) → ℕ → ℕ
count_to Q n = sum_below n (λ p. tick (Q p))

pub count_to-same : (Q R : ℕ → Bool) (n : ℕ) → ((p : ℕ) → p < n → Q p ≡ R p) → count_to Q n ≡ count_to R n
count_to-same Q R n h = below-same n (λ p. tick (Q p)) (λ p. tick (R p)) (λ p l. ap tick (h p l))

one_le : (b c : Bool) → (b ≡ true → c ≡ true) → tick b ≤ tick c
one_le true c h = rw (h refl) (omega arith)
one_le false c h = omega arith

pub count_to-le : (Q R : ℕ → Bool) (n : ℕ) → ((p : ℕ) → p < n → Q p ≡ true → R p ≡ true) → count_to Q n ≤ count_to R n
count_to-le Q R zero h = omega arith
count_to-le Q R (suc n) h = grind (arith, common_steps, one_le, count_to-le Q R n (λ p l. h p (omega arith)))

-- one bucket more passes
pub count_to-lt : (Q R : ℕ → Bool) (n x : ℕ) → x < n → Q x ≡ false → R x ≡ true → ((p : ℕ) → p < n → Q p ≡ true → R p ≡ true)
    → count_to Q n < count_to R n
count_to-lt Q R zero x l q r h = absurd (omega arith)
count_to-lt Q R (suc n) x l q r h =
    elim (cases_eq x n) [
      | inl e ↦ grind (arith, common_steps, count_to-le Q R n (λ p l. h p (omega arith)), ap Q e, ap R e)
      | inr ne ↦
          let here = one_le (Q n) (R n) (h n (omega arith)) in
          omega (arith, count_to-lt Q R n x (omega arith) q r (λ p l. h p (omega arith)))
    ]

-- exactly one bucket more passes
pub count_to_more : (Q R : ℕ → Bool) (n x : ℕ) → x < n → Q x ≡ false → R x ≡ true → ((p : ℕ) → p < n → p ≢ x → Q p ≡ R p)
    → count_to R n ≡ count_to Q n + 1
count_to_more Q R n x l q r h =
    let more = below-more n x (λ p. tick (Q p)) (λ p. tick (R p)) l (tick_no _ q) (λ p l ne. ap tick (h p l ne)) in
    omega (arith, tick_yes _ r)

pub count_to-none : (Q : ℕ → Bool) (n : ℕ) → ((p : ℕ) → p < n → Q p ≡ false) → count_to Q n ≡ 0
count_to-none Q n h = below-zero n (λ p. tick (Q p)) (λ p l. tick_no _ (h p l))

-- a count over a list, by buckets
pub count_by-count_to : {X : Type 0} (f : X → Bool) (xs : List X) (d : X) → count_by f xs ≡ count_to (λ p. f (get_or xs p d)) (length xs)
count_by-count_to f xs d = sum_by-below (λ x. tick (f x)) xs d

one_if : (s t : ℕ) → ((s < t) × (tick (ltb s t) ≡ 1)) ⊎ ((t ≤ s) × (tick (ltb s t) ≡ 0))
one_if s t = grind (arith, nat_tests)

-- the buckets below n that lie in the stretch of t buckets which ends with b
stretch_part : (m b t n : ℕ) → b < m → t ≤ m → n ≤ m
    → count_to (λ p. ltb (probe_distance m p b) t) n ≡ (min n (b + 1) - (b + 1 - t)) + (n - (b + m + 1 - t))
stretch_part m b t zero in_b in_t in_n = omega arith
stretch_part m b t (suc n) in_b in_t in_n = grind (arith, common_steps, distance_is, one_if, stretch_part m b t n in_b in_t (omega arith))

-- a stretch of t buckets has t buckets
pub stretch_size : (m b t : ℕ) → b < m → t ≤ m → count_to (λ p. ltb (probe_distance m p b) t) m ≡ t
stretch_size m b t in_b in_t = stretch_part m b t m in_b in_t (omega arith) ∙ omega arith

-- the buckets below n that lie among the first t buckets from b
ahead_part : (m b t n : ℕ) → b < m → t ≤ m → n ≤ m
    → count_to (λ p. ltb (probe_distance m b p) t) n ≡ (min n (b + t) - b) + min n (b + t - m)
ahead_part m b t zero in_b in_t in_n = omega arith
ahead_part m b t (suc n) in_b in_t in_n = grind (arith, common_steps, distance_is, one_if, ahead_part m b t n in_b in_t (omega arith))

-- there are t of them
pub ahead_size : (m b t : ℕ) → b < m → t ≤ m → count_to (λ p. ltb (probe_distance m b p) t) m ≡ t
ahead_size m b t in_b in_t = ahead_part m b t m in_b in_t (omega arith) ∙ omega arith
