-- How few lists have a crowd of at least `d` entries: as many entries below some number as it, or more.
use Rattle.std.proofs.Common.{◌≡◌, ℕ, zero, suc, ◌+◌, ◌*◌, ◌^◌, ◌<◌, ◌≤◌, Bool, true, false, ◌||◌, ◌&&◌, leb, ltb, inl, inr, refl, sym, ap, ◌∙◌, subst, arith, List, [], ◌∷◌, ◌++◌, length, count_by}
use Rattle.std.proofs.Math.Nat.{pow-zero, pow-succ', mul-le-mul_left}
use Rattle.std.proofs.lemmas.Bool.{cases_lt, cases_eq, lt-leb, le-ltb, and_right}
use Rattle.std.proofs.lemmas.Bool.Decides.{nat_tests}
use Rattle.std.proofs.lemmas.List.Sums.{sum_by-append, sum_by-cons, count_by-le-length}
use Rattle.std.proofs.lemmas.Nat.{mul-pow}
use Rattle.half_store.proofs.lemmas.table.Counts.{tick, tick_no}
use Rattle.half_mean.specs.Mean.{sum_below, sum_lists}
use Rattle.half_mean.proofs.lemmas.Sums.{lists-same, lists-const, lists-swap, lists-le}
use Rattle.half_mean.proofs.lemmas.Powers.{heavy}

pub tick-le : (b : Bool) → tick b ≤ 1
tick-le true = omega arith
tick-le false = omega arith

-- the number may be left out of a list
abbrev Blind : ℕ → (List ℕ → ℕ) → Type 0
Blind m f = (some others : List ℕ) → f (some ++ m ∷ others) ≡ f (some ++ others)

module _ (m q : ℕ) where
  -- the sum over all numbers below m that may come first
  inner : (List ℕ → ℕ) → List ℕ → ℕ
  inner f w = sum_below m (λ x. f (x ∷ w))

  inner-step : (p a s l : ℕ) (f : List ℕ → ℕ) → p * (q ^ suc l * sum_lists m (suc l) f) ≤ a * s ^ suc l
      → p * q * (q ^ l * sum_lists m l (inner f)) ≤ a * s * s ^ l
  unfolding inner
  inner-step p a s l f before =
      let all = rw (pow-succ' q l, pow-succ' s l, ← lists-swap m l m (λ w x. f (x ∷ w))) at before in
      grind arith

  split : (n : ℕ) (f : List ℕ → ℕ) → Blind m f
      → sum_lists (suc m) (suc n) f ≡ sum_lists (suc m) n f + sum_lists (suc m) n (inner f)
  unfolding inner
  split n f blind = λ i. sum_lists (suc m) n (λ w. blind [] w i) + sym (lists-swap (suc m) n m (λ w x. f (x ∷ w))) i

  inner-blind : (f : List ℕ → ℕ) → Blind m f → Blind m (inner f)
  unfolding inner
  inner-blind f blind some others = ap (sum_below m) (λ i x. blind (x ∷ some) others i)

  -- a bound of the sums over lists of numbers below m bounds those below m + 1 too, if m may be left out
  thin : (n p a s : ℕ) (f : List ℕ → ℕ) → Blind m f → ((l : ℕ) → l ≤ n → p * (q ^ l * sum_lists m l f) ≤ a * s ^ l)
      → p * (q ^ n * sum_lists (suc m) n f) ≤ a * (s + q) ^ n
  thin zero p a s f blind bound = rw (pow-zero (s + q)) (rw (pow-zero s) at (bound 0 (omega arith)))
  thin (suc n) p a s f blind bound =
      let more = mul-le-mul_left q (thin n p a s f blind (λ l small. bound l (omega arith))) in
      let others = thin n (p * q) (a * s) s (inner f) (inner-blind f blind)
      (λ l small. inner-step p a s l f (bound (suc l) (omega arith))) in
      rw (split n f blind, pow-succ' q n, pow-succ' (s + q) n) (grind arith)

-- how many entries are below a number
abbrev pub entries_below : ℕ → List ℕ → ℕ
entries_below t w = count_by (λ x. ltb x t) w

-- whether t or more are below t, for some t from d to m
pub crowded : ℕ → ℕ → List ℕ → Bool
crowded d zero w = false
crowded d (suc m) w = leb d (suc m) && leb (suc m) (entries_below (suc m) w) || crowded d m w

below-blind : (t m : ℕ) (some others : List ℕ) → t ≤ m → entries_below t (some ++ m ∷ others) ≡ entries_below t (some ++ others)
below-blind t m some others few =
    let near : ℕ → ℕ = λ x. tick (ltb x t) in
    let past : near m ≡ 0 = tick_no _ (le-ltb m t few) in
    omega (arith, sum_by-append near some (m ∷ others), sum_by-append near some others, sum_by-cons near m others)

crowded-blind : (d n m : ℕ) (some others : List ℕ) → n ≤ m → crowded d n (some ++ m ∷ others) ≡ crowded d n (some ++ others)
unfolding crowded
crowded-blind d zero m some others few = refl
crowded-blind d (suc n) m some others few = rw (below-blind (suc n) m some others few, crowded-blind d n m some others (omega arith)) refl

pub crowded-yes : (d t m : ℕ) (w : List ℕ) → 1 ≤ t → d ≤ t → t ≤ m → t ≤ entries_below t w → crowded d m w ≡ true
unfolding crowded
crowded-yes d t zero w some far small full = absurd (omega arith)
crowded-yes d t (suc m) w some far small full = grind (arith, nat_tests, cases_eq t (suc m), crowded-yes d t m w)

crowded-no : (d m : ℕ) (w : List ℕ) → m < d → crowded d m w ≡ false
unfolding crowded
crowded-no d zero w far = refl
crowded-no d (suc m) w far = rw (lt-leb d (suc m) far, crowded-no d m w (omega arith)) refl

module _ (q d : ℕ) (some : 1 ≤ d) where
  abbrev crowds : ℕ → ℕ → ℕ
  crowds m n = sum_lists m n (λ w. tick (crowded d m w))

  abbrev Few : ℕ → ℕ → Type 0
  Few m n = suc q ^ d * (q ^ n * crowds m n) ≤ q ^ d * (q * m + d) ^ n

  from_fewer : (m n : ℕ) → ((l : ℕ) → l ≤ n → Few m l) → ((w : List ℕ) → length w ≡ n → crowded d (suc m) w ≡ crowded d m w) → Few (suc m) n
  from_fewer m n before same =
      let e : q * suc m + d ≡ q * m + d + q = grind arith in
      rw (lists-same (suc m) n (λ w. tick (crowded d (suc m) w)) (λ w. tick (crowded d m w)) (λ w long. ap tick (same w long)), e)
      (thin m q n (suc q ^ d) (q ^ d) (q * m + d) (λ w. tick (crowded d m w))
      (λ some others. ap tick (crowded-blind d m m some others (omega arith))) before)

  from_all : (m : ℕ) → d ≤ m → Few m m
  from_all m fits =
      let all : crowds m m ≤ m ^ m * 1 = rw (← lists-const m m 1) (lists-le m m _ _ (λ w l. tick-le (crowded d m w))) in
      let each : suc q ^ d * (q ^ m * crowds m m) ≤ suc q ^ d * (q ^ m * (m ^ m * 1)) = mul-le-mul_left (suc q ^ d) (mul-le-mul_left (q ^ m) all) in
      let most = rw (mul-pow q m m) at (heavy q d m some fits) in
      omega arith

  none : (m n : ℕ) → m < d → Few m n
  none m n far =
      let z : crowds m n ≡ 0 = lists-same m n _ (λ w. 0) (λ w long. ap tick (crowded-no d m w far)) ∙ lists-const m n 0 ∙ omega arith in
      rw z (omega arith)

  -- of all lists at most the part `(1 + d / (q * m)) ^ n * (q / (q + 1)) ^ d` is crowded
  pub few_crowds : (m n : ℕ) → n ≤ m → Few m n
  unfolding crowded
  few_crowds zero n fits = none zero n some
  few_crowds (suc m) n fits =
      elim (cases_lt (suc m) d) [
        | inl far ↦ none (suc m) n far
        | inr near ↦ elim (cases_eq n (suc m)) [
          | inl e ↦ subst (Few (suc m)) (sym e) (from_all (suc m) near)
          | inr ne ↦ from_fewer m n (λ l small. few_crowds m l (omega arith)) (λ w long. ap (λ b. b || crowded d m w)
              (and_right _ _ (lt-leb (suc m) (entries_below (suc m) w) (omega (arith, count_by-le-length (λ x. ltb x (suc m)) w)))))
        ]
      ]
