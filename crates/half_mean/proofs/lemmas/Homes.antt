-- If each bucket is the home of equally many hashes, sums over hashes are sums over homes.
use Rattle.std.proofs.Common.{◌≡◌, ℕ, zero, suc, ◌+◌, ◌*◌, ◌^◌, ◌<◌, ◌%◌, nat_lt, refl, sym, ap, ◌∙◌, arith, add-one, List, [], ◌∷◌, map}
use Rattle.std.proofs.Math.Nat.{pow-succ', pow-suc, pow-zero, mul_assoc, mod-mod, zero-add, suc-add, zero-mul, add_comm}
use Rattle.std.proofs.lemmas.List.Sums.{sum_by-cons}
use Rattle.std.proofs.lemmas.Nat.{mod-mul-add}
use Rattle.half_store.specs.Reach.{home, probe_distance, load, reach}
use Rattle.half_store.proofs.lemmas.table.Counts.{tick}
use Rattle.half_store.proofs.lemmas.table.History.{reach-loads}
use Rattle.half_mean.specs.Mean.{sum_below, sum_lists, total_reach, total_filling, filling_reads_in, HomesMeanLaw}
use Rattle.half_mean.proofs.lemmas.Sums.{below-same, below-times, lists-times}

-- the homes of a list
abbrev pub homes : ℕ → List ℕ → List ℕ
homes m w = map (home m) w

load-homes : (m : ℕ) (w : List ℕ) (last size : ℕ) → load w m last size ≡ load (homes m w) m last size
unfolding load
load-homes m [] last size = refl
load-homes m (x ∷ w) last size =
    let near : ℕ → ℕ = λ y. tick (nat_lt (probe_distance m (home m y) last) size) in
    sum_by-cons near x w
    ∙ (λ i. tick (nat_lt (probe_distance m (sym (mod-mod x m) i) last) size) + load-homes m w last size i)
    ∙ sym (sum_by-cons near (home m x) (homes m w))

pub reach-homes : (m : ℕ) (w : List ℕ) (h : ℕ) → reach (homes m w) m h ≡ reach w m h
reach-homes m w h = reach-loads (homes m w) w m (load-homes m w) h

pub reach-home : (m : ℕ) (w : List ℕ) (h : ℕ) → reach w m (home m h) ≡ reach w m h
unfolding reach
reach-home m w h = rw mod-mod

pub below-split : (a b : ℕ) (f : ℕ → ℕ) → sum_below (a + b) f ≡ sum_below a (λ k. f (k + b)) + sum_below b f
below-split zero b f = ap (λ n. sum_below n f) (zero-add b) ∙ sym (zero-add (sum_below b f))
below-split (suc a) b f = ap (λ n. sum_below n f) (suc-add a b) ∙ ap (λ s. f (a + b) + s) (below-split a b f) ∙ omega arith

-- each home comes `share` times
below-homes : (share m : ℕ) (f : ℕ → ℕ) → ((h : ℕ) → f (home m h) ≡ f h) → sum_below (share * m) f ≡ share * sum_below m f
below-homes zero m f free = (λ i. sum_below (zero-mul m i) f) ∙ sym (zero-mul (sum_below m f))
below-homes (suc share) m f free =
    let turn : ℕ = share * m in
    let same : (k : ℕ) → k < m → f (k + turn) ≡ f k = λ k l.
    sym (free (k + turn)) ∙ ap f (ap (λ n. n % m) (add_comm k turn) ∙ mod-mul-add share m k l) in
    let rest = below-homes share m f free in
    ap (λ n. sum_below n f) (let e : suc share * m ≡ m + turn = omega arith in e) ∙ below-split m turn f
    ∙ (λ i. below-same m (λ k. f (k + turn)) f same i + rest i) ∙ omega arith

module _ (share m : ℕ) where
  pub lists-homes : (n : ℕ) (f : List ℕ → ℕ) → ((w : List ℕ) → f (homes m w) ≡ f w)
      → sum_lists (share * m) n f ≡ share ^ n * sum_lists m n f
  lists-homes zero f free = sym (ap (λ s. s * f []) (pow-zero share) ∙ omega arith)
  lists-homes (suc n) f free =
      let after : ℕ → ℕ = λ x. sum_lists m n (λ w. f (x ∷ w)) in
      let twice : (x : ℕ) → home m (home m x) ≡ home m x = λ x. mod-mod x m in
      let same : (x : ℕ) (w : List ℕ) → f (home m x ∷ w) ≡ f (x ∷ w) = λ x w.
      sym (free (home m x ∷ w)) ∙ ap (λ y. f (y ∷ homes m w)) (twice x) ∙ free (x ∷ w) in
      let others : (x : ℕ) (w : List ℕ) → f (x ∷ homes m w) ≡ f (x ∷ w) = λ x w. sym (same x (homes m w)) ∙ free (x ∷ w) in
      ap (sum_below (share * m)) (λ i x. lists-homes n (λ w. f (x ∷ w)) (others x) i)
      ∙ below-times (share * m) (share ^ n) after
      ∙ ap (λ s. share ^ n * s) (below-homes share m after (λ x. ap (sum_lists m n) (λ i w. same x w i)))
      ∙ sym (mul_assoc (share ^ n) share (sum_below m after)) ∙ ap (λ p. p * sum_below m after) (sym (pow-suc share n))

  -- the sum over all lists and searched hashes, of what depends on homes only
  pub probes-homes : (n : ℕ) (f : List ℕ → ℕ → ℕ) → ((w : List ℕ) (h : ℕ) → f (homes m w) h ≡ f w h) → ((w : List ℕ) (h : ℕ) → f w (home m h) ≡ f w h)
      → sum_lists (share * m) n (λ w. sum_below (share * m) (λ h. f w h)) ≡ share ^ (n + 1) * sum_lists m n (λ w. sum_below m (λ h. f w h))
  probes-homes n f lists searched =
      let probes : List ℕ → ℕ = λ w. sum_below m (λ h. f w h) in
      ap (sum_lists (share * m) n) (λ i w. below-homes share m (f w) (searched w) i)
      ∙ lists-times (share * m) n share probes
      ∙ ap (λ s. share * s) (lists-homes n probes (λ w. ap (sum_below m) (λ i h. lists w h i)))
      ∙ sym (mul_assoc share (share ^ n) (sum_lists m n probes))
      ∙ ap (λ p. p * sum_lists m n probes) (sym (ap (λ e. share ^ e) (add-one n) ∙ pow-succ' share n))

filling-homes : (m : ℕ) (w : List ℕ) → filling_reads_in m (homes m w) ≡ filling_reads_in m w
filling-homes m [] = refl
filling-homes m (x ∷ w) = λ i. (reach-homes m w (home m x) ∙ reach-home m w x) i + filling-homes m w i

pub homes_law : HomesMeanLaw
unfolding total_reach
homes_law share m n some = probes-homes share m n (λ w h. reach w m h) (reach-homes m) (reach-home m)

pub filling_homes : (share m n : ℕ) → total_filling (share * m) m n ≡ share ^ n * total_filling m m n
unfolding total_filling
filling_homes share m n = lists-homes share m n (filling_reads_in m) (filling-homes m)
