-- Full buckets are loaded, empty ones are not; so a probe ends where `reach` says.
use Rattle.half_store.proofs.Common.{◌≡◌, ◌≤◌, length, ◌+◌, inr, refl, ◌∙◌, arith, ℕ, ◌-◌, ◌<◌, zero, suc, inl, sym, ap, Bool, List, Some, Option, None, subst}
use Rattle.half_store.proofs.Common.{◌≢◌, true, false, set, count_by, ◌⊎◌, nat_lt, cases_lt, cases_eq, lt-ltb, common_steps, get_or-set_same, get_or-set_other}
use Rattle.half_store.proofs.Common.{get_or_past, probe_distance, bucket_after, home, slot_at, HasVacantSlot, ProbeInvariant, stored, IsSlotVacancy}
use Rattle.half_store.proofs.Common.{distance_from_home}
use Rattle.std.proofs.Common.{ltb}
use Rattle.std.proofs.lemmas.Bool.{false≢true}
use Rattle.std.proofs.lemmas.Nat.{mod_below}
use borrow.Author.Tests.{ltb-true}
use Rattle.half_store.specs.Slots.{FullBefore}
use Rattle.half_store.proofs.lemmas.table.Circle.{probe_distance-lt, distance_self, bucket_after-lt, next_farther}
use Rattle.half_store.proofs.lemmas.table.Circle.{probe_distance-bucket_after, bucket_after-probe_distance, distance_same, down-lt}
use Rattle.half_store.proofs.lemmas.table.Circle.{probe_distance-down, down-probe_distance, home_in_stretch, nearer_than_home, after_is}
use Rattle.half_store.proofs.lemmas.table.Counts.{count_to, count_to-le, count_to-lt, count_by-count_to, stretch_size}
use Rattle.half_store.proofs.Common.{nat_tests}

pub slot_cases : (o : Option ℕ) → (o ≡ None) ⊎ ((hash : ℕ) × (o ≡ Some hash))
slot_cases None = inl refl
slot_cases (Some h) = inr (h, refl)

-- a bucket that holds a hash is not empty
pub full_from : (o : Option ℕ) (h : ℕ) → o ≡ Some h → o ≢ None
full_from o h e z = cc

-- a bucket that was written, and each other one
pub slot_set : (slots : List (Option ℕ)) (p : ℕ) (o : Option ℕ) → p < length slots → slot_at (set slots p o) p ≡ o
slot_set slots p o l = get_or-set_same slots p o None l

pub slot_other : (slots : List (Option ℕ)) (p q : ℕ) (o : Option ℕ) → q ≢ p → slot_at (set slots p o) q ≡ slot_at slots q
slot_other slots p q o ne = get_or-set_other slots p q o None ne

pub home-lt : (m h : ℕ) → 0 < m → home m h < m
home-lt m h p = mod_below h m p

module _ (slots : List (Option ℕ)) where
  abbrev m : ℕ
  m = length slots

  -- full buckets lie within
  pub full-lt : (p : ℕ) → slot_at slots p ≢ None → p < m
  full-lt p full = elim (cases_lt p m) [ inl l ↦ l | inr g ↦ absurd (full (get_or_past slots p None g)) ]

  -- the first empty bucket among those that f lists
  pub first_none : (f : ℕ → ℕ) (n : ℕ)
      → ((k : ℕ) → k < n → slot_at slots (f k) ≢ None) ⊎
      ((k : ℕ) × (k < n) × (slot_at slots (f k) ≡ None) × ((j : ℕ) → j < k → slot_at slots (f j) ≢ None))
  first_none f zero = inl (λ k l. absurd (omega arith))
  first_none f (suc n) =
      elim (first_none f n) [
        | inr (k, l, none, before) ↦ inr (k, omega arith, none, before)
        | inl all ↦ elim (slot_cases (slot_at slots (f n))) [
          | inl none ↦ inr (n, omega arith, none, all)
          | inr (h, is) ↦ inl (λ k l. elim (cases_eq k n)
              [ inl e ↦ subst (λ i. slot_at slots (f i) ≢ None) (sym e) (full_from _ h is) | inr ne ↦ all k (omega arith) ])
        ]
      ]

  -- a probe for the hash ends at an empty bucket
  pub vacancy_for : (hash : ℕ) → HasVacantSlot slots → (p : ℕ) × IsSlotVacancy slots hash p
  vacancy_for hash (v, in_v, none_v) =
      let b : ℕ = home m hash in
      let in_b : b < m = home-lt m hash (omega arith) in
      elim (first_none (λ k. bucket_after m b k) m) [
        | inl all ↦ absurd (all (probe_distance m b v) (probe_distance-lt m b in_b v in_v)
            (ap (slot_at slots) (bucket_after-probe_distance m b in_b v in_v) ∙ none_v))
        | inr (k, l, none, before) ↦ (
          bucket_after m b k,
          record {
            within = bucket_after-lt m b in_b k (omega arith);
            vacant = none;
            passed = λ o in_o nearer. subst (λ q. slot_at slots q ≢ None) (bucket_after-probe_distance m b in_b o in_o)
                (before (probe_distance m b o) (omega (arith, probe_distance-bucket_after m b in_b k l)));
          },
        )
      ]

  -- how many stored hashes have their home in the stretch
  abbrev pub slots_load : ℕ → ℕ → ℕ
  slots_load b size = count_by (stored (λ hash. nat_lt (probe_distance m (home m hash) b) size)) slots

  abbrev in_stretch : ℕ → ℕ → ℕ → Bool
  in_stretch b size p = stored (λ hash. nat_lt (probe_distance m (home m hash) b) size) (slot_at slots p)

  slots_load-count_to : (b size : ℕ) → slots_load b size ≡ count_to (in_stretch b size) m
  slots_load-count_to b size = count_by-count_to (stored (λ hash. nat_lt (probe_distance m (home m hash) b) size)) slots None

  -- a stored hash that passes a test
  pub stored_passes : (test : ℕ → Bool) (o : Option ℕ) → stored test o ≡ true → (hash : ℕ) × (o ≡ Some hash) × (test hash ≡ true)
  stored_passes test None e = absurd (false≢true e)
  stored_passes test (Some h) e = (h, refl, e)

  pub passes_stored : (test : ℕ → Bool) (o : Option ℕ) (hash : ℕ) → o ≡ Some hash → test hash ≡ true → stored test o ≡ true
  passes_stored test o hash e t = rw e t

  module _ (ordered : ProbeInvariant slots) where
    -- the full buckets back to the nearest empty one are a stretch that holds the homes of all its pairs
    pub full_loaded : (b run : ℕ) → b < m → ((p : ℕ) → p < m → probe_distance m p b < run → slot_at slots p ≢ None) → HasVacantSlot slots
        → (size : ℕ) × (run ≤ size) × (size < m) × (size ≤ slots_load b size)
    full_loaded b run in_b full (v, in_v, none_v) =
        elim (first_none (λ k. bucket_after m b (m - k)) m) [
          | inl all ↦ absurd (all (probe_distance m v b) (probe_distance-lt m v in_v b in_b)
              (ap (slot_at slots) (down-probe_distance m b in_b v in_v) ∙ none_v))
          | inr (k, l, none, before) ↦
              let e : ℕ = bucket_after m b (m - k) in
              let in_e : e < m = down-lt m b in_b k (omega arith) in
              let far : probe_distance m e b ≡ k = probe_distance-down m b in_b k l in
              let long : run ≤ k = elim (cases_lt k run) [ inl near ↦ absurd (full e in_e (omega arith) none) | inr ge ↦ ge ] in
              let homes : (p : ℕ) → p < m → ltb (probe_distance m p b) k ≡ true → in_stretch b k p ≡ true = λ p in_p near.
              let n : probe_distance m p b < k = ltb-true _ _ near in
              elim (slot_cases (slot_at slots p)) [
                | inl z ↦ absurd (before (probe_distance m p b) n (ap (slot_at slots) (down-probe_distance m b in_b p in_p) ∙ z))
                | inr (h, is) ↦
                    let x = ordered.before p e h is in_e none in
                    grind (arith, common_steps, home-lt, home_in_stretch m (home m h) p e b, nat_tests)
              ] in
              let count = count_to-le (λ p. ltb (probe_distance m p b) k) (in_stretch b k) m homes in
              (k, long, l, omega (arith, stretch_size m b k in_b (omega arith), slots_load-count_to b k))
        ]

    -- no pair passes an empty bucket, so those in its home bucket in a stretch that ends there lie in the rest of it
    pub vacant_unloaded : (b : ℕ) → b < m → slot_at slots b ≡ None → (size : ℕ) → 1 ≤ size → size < m → slots_load b size < size
    vacant_unloaded b in_b none size one small =
        let inside : (p : ℕ) → p < m → in_stretch b size p ≡ true → ltb (probe_distance m p b) size ≡ true = λ p in_p near.
        let s = stored_passes _ (slot_at slots p) near in
        let x = ordered.before p b s.0 s.1 in_b none in
        grind (arith, nat_tests, home-lt, nearer_than_home m (home m s.0) p b, s.2) in
        let out : in_stretch b size b ≡ false = ap (stored (λ hash. nat_lt (probe_distance m (home m hash) b) size)) none in
        let own : ltb (probe_distance m b b) size ≡ true = lt-ltb _ _ (omega (arith, distance_self m b in_b)) in
        let fewer = count_to-lt (in_stretch b size) (λ p. ltb (probe_distance m p b) size) m b in_b out own inside in
        omega (arith, stretch_size m b size in_b (omega arith), slots_load-count_to b size)

-- a probe for the hash has passed full buckets and is at this one
pub record Probes (slots : List (Option ℕ)) (hash bucket : ℕ) : Type 0 where
  pub inside : bucket < length slots
  pub passed : FullBefore slots (home (length slots) hash) bucket

module _ (slots : List (Option ℕ)) (hash bucket : ℕ) (in_bucket : bucket < length slots) (e : bucket ≡ home (length slots) hash) where
  -- it begins at its home
  pub home_distance : distance_from_home slots hash bucket ≡ 0
  home_distance = ap (λ b. probe_distance (length slots) b bucket) (sym e) ∙ distance_self (length slots) bucket in_bucket

module _ {slots : List (Option ℕ)} {hash bucket : ℕ} where
  pub Probes-vacancy : Probes slots hash bucket → slot_at slots bucket ≡ None → IsSlotVacancy slots hash bucket
  Probes-vacancy w none = record { within = w.inside; vacant = none; passed = w.passed }

  -- from a full bucket it goes on to the next, and not past all
  module _ (w : Probes slots hash bucket) (vacant : HasVacantSlot slots) (next : ℕ) (full : slot_at slots bucket ≢ None)
      (e : next ≡ bucket_after (length slots) bucket 1) where
    in_home : home (length slots) hash < length slots
    in_home = home-lt (length slots) hash (omega (arith, vacant.1))

    same_bucket : (o : ℕ) → o < length slots → distance_from_home slots hash o ≡ distance_from_home slots hash bucket
        → slot_at slots o ≢ None
    same_bucket o in_o at = grind (arith, common_steps, distance_same, in_home)

    farther : distance_from_home slots hash bucket < distance_from_home slots hash vacant.0
    farther = grind (arith, common_steps, same_bucket)

    pub Probes-distance : distance_from_home slots hash next ≡ distance_from_home slots hash bucket + 1
    Probes-distance = next_farther (length slots) (home (length slots) hash) bucket vacant.0 next in_home w.inside vacant.1 farther e

    pub Probes-next : Probes slots hash next
    Probes-next = grind (arith, common_steps, Probes-distance, after_is, same_bucket)

    -- fewer buckets are ahead of the next one
    pub Probes-ahead : length slots - distance_from_home slots hash next < length slots - distance_from_home slots hash bucket
    Probes-ahead = grind (arith, common_steps, Probes-distance, farther, in_home, probe_distance-lt)
