-- Sums over buckets and over the hashes in them.
use Rattle.half_store.proofs.Common.{◌≡◌, ◌≤◌, ◌+◌, refl, ◌∙◌, arith, ℕ, zero, suc, sym, Bool, List, Some, Option, None}
use Rattle.half_store.proofs.Common.{[], ◌∷◌, count_by, nat_lt, sum_by-cons, slot_at, stored}
use Rattle.half_store.proofs.Common.{reads_up_to}
use Rattle.std.proofs.Common.{sum_by, min}
use Rattle.half_store.specs.Work.{sum_below}
pub use Rattle.half_store.proofs.lemmas.table.Counts.{below-same, below-plus, below-const, below-swap, below-first, below-zero, below-more, below-one, sum_by-below}
use Rattle.half_store.proofs.lemmas.table.Counts.{tick}
use Rattle.half_store.proofs.lemmas.table.Probe.{SameCounts}
use Rattle.half_store.proofs.Common.{common_steps, nat_tests}

-- an empty bucket adds 0
abbrev pub of_slot : (ℕ → ℕ) → Option ℕ → ℕ
of_slot f None = 0
of_slot f (Some hash) = f hash

-- what probes for all that the buckets hold read
abbrev pub slot_reads : ℕ → List (Option ℕ) → ℕ
slot_reads m slots = sum_below m (λ p. of_slot (λ h. reads_up_to m h p) (slot_at slots p))

sum_by-zero : {X : Type 0} (f : X → ℕ) → ((x : X) → f x ≡ 0) → (xs : List X) → sum_by f xs ≡ 0
sum_by-zero f none [] = refl
sum_by-zero f none (x ∷ xs) = omega (arith, sum_by-cons f x xs, none x, sum_by-zero f none xs)

-- one more for each that passes adds their number to the sum
layer : {X : Type 0} (more fewer : X → ℕ) (test : X → Bool) → ((x : X) → more x ≡ fewer x + tick (test x))
    → (xs : List X) → sum_by more xs ≡ sum_by fewer xs + count_by test xs
layer more fewer test step [] = refl
layer more fewer test step (x ∷ xs) = grind (arith, common_steps, sum_by-cons, step x, layer more fewer test step xs)

cap-more : (n cap : ℕ) → min n (suc cap) ≡ min n cap + tick (nat_lt cap n)
cap-more n cap = grind (arith, nat_tests)

module _ (hashes : List ℕ) (slots : List (Option ℕ)) (counted : SameCounts hashes slots) (weight : ℕ → ℕ) where
  abbrev capped : ℕ → ℕ → ℕ
  capped cap hash = min (weight hash) cap

  abbrev above : ℕ → ℕ → Bool
  above cap hash = nat_lt cap (weight hash)

  slot-more : (cap : ℕ) (slot : Option ℕ) → of_slot (capped (suc cap)) slot ≡ of_slot (capped cap) slot + tick (stored (above cap) slot)
  slot-more cap None = refl
  slot-more cap (Some hash) = cap-more (weight hash) cap

  slot-none : (slot : Option ℕ) → of_slot (capped 0) slot ≡ 0
  slot-none None = refl
  slot-none (Some hash) = omega arith

  capped-sums : (cap : ℕ) → sum_by (capped cap) hashes ≡ sum_by (of_slot (capped cap)) slots
  capped-sums zero = sum_by-zero (capped 0) (λ h. omega arith) hashes ∙ sym (sum_by-zero (of_slot (capped 0)) slot-none slots)
  capped-sums (suc cap) =
      layer (capped (suc cap)) (capped cap) (above cap) (λ h. cap-more (weight h) cap) hashes
      ∙ (λ i. capped-sums cap i + counted (above cap) i)
      ∙ sym (layer (of_slot (capped (suc cap))) (of_slot (capped cap)) (stored (above cap)) (slot-more cap) slots)

  -- hashes that are the same by each count are the same by each sum
  pub same_sums : (cap : ℕ) → ((hash : ℕ) → weight hash ≤ cap) → sum_by weight hashes ≡ sum_by (of_slot weight) slots
  same_sums cap small =
      let whole : (hash : ℕ) → weight hash ≡ capped cap hash = λ hash. omega (arith, small hash) in
      (λ i. sum_by (λ h. whole h i) hashes) ∙ capped-sums cap ∙ sym (λ i. sum_by (of_slot (λ h. whole h i)) slots)
