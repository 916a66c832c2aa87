-- How much capacity and memory a run leaves, by induction over the steps.
use Rattle.half_laws.proofs.Common.{◌≡◌, ℕ, zero, suc, ◌+◌, ◌*◌, ◌≤◌, max, inl, inr, Bool, true, false, List, [], ◌∷◌, length}
use Rattle.half_laws.proofs.Common.{fold, Option, Some, sym, ap, subst, arith, if◌then◌else◌, common_steps, buckets_of}
use Rattle.half_laws.proofs.Common.{least_table_capacity, least_capacity, is_vec_shrunk, buckets_for-least, is_full}
use Rattle.half_laws.proofs.Common.{is_vec_after, capacity_after, IsShrunk, StepsLead, commands_of, Step, IsValidStep, State}
use Rattle.half_laws.proofs.Common.{IsValid, full_len, neither, CapacityLaw, BytesLaw, is_reserve, has_reserve, most_held}
use Rattle.half_store.specs.Capacity.{least_buckets}
use Rattle.half_store.specs.Arrays.{bytes}
use Rattle.half_store.specs.Words.{word_size}
use Rattle.half_laws.proofs.lemmas.runs.Changes.{IsDue, Changes, step_changes}

capacity_for-most : (n : ℕ) → least_table_capacity n ≤ 2 * n + 1
unfolding least_buckets
capacity_for-most zero = omega arith
capacity_for-most (suc n) = grind (arith, common_steps, capacity_for-most n, buckets_for-least n)

-- the most of all is at least that of the beginning
most_least : {X : Type 0} (f : X → ℕ) (xs : List X) (n : ℕ) → n ≤ fold (λ most x. max most (f x)) n xs
most_least f [] n = omega arith
most_least f (x ∷ xs) n = omega (arith, most_least f xs (max n (f x)))

-- with no more capacity the columns, the words and all arrays take no more bytes
columns-le : (key value capacity most : ℕ) → capacity ≤ most → key * capacity + value * capacity ≤ key * most + value * most
columns-le key value capacity most few = grind (arith, common_steps)

words-le : (capacity most : ℕ) → capacity ≤ most → word_size capacity * buckets_of capacity ≤ word_size most * buckets_of most
words-le capacity most few = grind (arith, common_steps)

bytes-le : (key value : ℕ) (is_vec : Bool) (capacity most : ℕ) → capacity ≤ most
    → bytes key value is_vec capacity ≤ bytes key value false most
bytes-le key value true capacity most few = omega (arith, columns-le key value capacity most few)
bytes-le key value false capacity most few = omega (arith, columns-le key value capacity most few, words-le capacity most few)

module _ {K V S : Type 0} (limit : ℕ) (eq : K → K → Bool) where
  switch_due : (m : State K V S) → IsValid limit eq m → (needs : Option ℕ) → IsDue m needs
      → IsDue m (if is_full limit m then Some (limit + 1) else needs)
  switch_due m state needs due = grind (arith, common_steps, full_len)

  -- the capacity after a step: what it was, or at most eight pairs more than twice the pairs
  abbrev IsModest : State K V S → ℕ → Type 0
  IsModest old capacity = capacity ≤ max old.capacity (2 * length old.pairs + 8)

  after_most : (old : State K V S) (is_vec : Bool) (needs : Option ℕ) → IsDue old needs
      → IsModest old (capacity_after limit is_vec old.capacity needs)
  after_most old is_vec needs due = grind (arith, common_steps, capacity_for-most)

  least_most : (old : State K V S) (is_vec : Bool) → IsModest old (least_capacity is_vec (length old.pairs))
  least_most old true = omega arith
  least_most old false = omega (arith, capacity_for-most (length old.pairs))

  shrunk_most : (old new : State K V S) → IsShrunk limit old new → IsModest old new.capacity
  shrunk_most old new shrunk =
      subst (IsModest old) (sym shrunk.capacity) (least_most old (is_vec_shrunk limit old.is_vec (length old.pairs)))

  step_most : (s : Step K V S) → IsValid limit eq s.before → IsValidStep limit eq s → is_reserve s.command ≡ false
      → IsModest s.before s.after.capacity
  step_most s state step none = by (step_changes limit eq s step none) where
    by : Changes limit eq s.before s.command s.after → IsModest s.before s.after.capacity
    by (inl put) = subst (IsModest s.before) (sym put.puts.capacity)
        (after_most s.before (is_vec_after limit s.before) _ (switch_due s.before state put.needs put.due))
    by (inr (inl keeps)) = omega (arith, keeps.capacity)
    by (inr (inr has_shrink)) = shrunk_most s.before s.after has_shrink.1

  -- from a state that holds no more than `top`
  steps_most : (old new : State K V S) (steps : List (Step K V S)) (top : ℕ) → StepsLead limit eq old steps new → IsValid limit eq old
      → has_reserve (commands_of steps) ≡ false → length old.pairs ≤ top
      → new.capacity ≤ max old.capacity (2 * fold (λ most s. max most (length s.after.pairs)) top steps + 8)
  steps_most old new [] top lead state none few = omega (arith, ap (λ m. m.capacity) lead)
  steps_most old new (s ∷ steps) top lead state none few =
      let parts = neither (is_reserve s.command) (has_reserve (commands_of steps)) none in
      let next = max top (length s.after.pairs) in
      omega (
        arith,
        ap (λ m. m.capacity) lead.0,
        ap (λ m. length m.pairs) lead.0,
        step_most s (subst (IsValid limit eq) (sym lead.0) state) lead.1 parts.0,
        most_least (λ s. length s.after.pairs) steps next,
        steps_most s.after new steps next lead.3 lead.2 parts.1 (omega arith),
      )

  pub capacity_law : CapacityLaw V S limit eq
  capacity_law old new steps lead state none = steps_most old new steps (length old.pairs) lead state none (omega arith)

  pub bytes_law : BytesLaw V S limit eq
  bytes_law old new steps lead state none key value =
      bytes-le key value new.is_vec new.capacity (max old.capacity (2 * most_held old steps + 8))
      (capacity_law old new steps lead state none)
