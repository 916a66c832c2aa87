-- Where probes end, and what they read and compare, by the held hashes only.
use Rattle.half_store.proofs.Common.{◌≡◌, ◌≤◌, length, ◌+◌, inr, refl, ◌∙◌, arith, ℕ, ◌-◌, ◌<◌, inl, sym, ap, Bool, List, Some, Option, None, ◌≢◌, true, false}
use Rattle.half_store.proofs.Common.{◌==◌, count_by, nat_lt, eq-eqb, ne_eqb, lt-ltb, le-ltb, common_steps, count_by-le-length, same_Some, reach, probe_distance, subst}
use Rattle.half_store.proofs.Common.{bucket_after, home, bucket_is_loaded, slot_at, HasVacantSlot, ProbeInvariant, stored, IsSlotVacancy, distance_from_home}
use Rattle.half_store.proofs.Common.{Work, looked_more, compared_more}
use Rattle.std.proofs.Common.{◌&&◌}
use Rattle.std.proofs.lemmas.Bool.{and_parts, and_from, and_left, and_right}
use borrow.Author.Tests.{ltb-true}
use Rattle.half_store.specs.Reach.{load}
use Rattle.half_store.specs.Slots.{FullBefore}
use Rattle.half_store.proofs.lemmas.table.Circle.{distance_is, probe_distance-lt, bucket_after-lt, probe_distance-bucket_after}
use Rattle.half_store.proofs.lemmas.table.Circle.{bucket_after-probe_distance, distance_same}
use Rattle.half_store.proofs.lemmas.table.Counts.{count_to, count_to-same, count_to-le, count_to_more, count_to-none, count_by-count_to}
use Rattle.half_store.proofs.lemmas.table.Counts.{ahead_size}
use Rattle.half_store.proofs.lemmas.table.Reach.{bucket_is_loaded-yes, bucket_is_loaded-no, loaded_run-is, reach-some}
use Rattle.half_store.proofs.lemmas.table.Mask.{mask_mod}
use Rattle.half_store.proofs.lemmas.table.Buckets.{length-slots_from}
use Rattle.half_store.proofs.lemmas.tally.{looked_more-zero}
use Rattle.half_store.proofs.lemmas.table.Slots.{Probes, home_distance, Probes-vacancy, Probes-distance, Probes-next, slot_cases, full_from}
use Rattle.half_store.proofs.lemmas.table.Slots.{home-lt, full-lt, vacancy_for, full_loaded, vacant_unloaded, stored_passes, passes_stored}
use Rattle.half_store.proofs.lemmas.table.Slots.{Probes-ahead}
use Rattle.half_store.proofs.Common.{nat_tests, length}
use Rattle.half_store.proofs.lemmas.table.Counts.{below-const}
use Rattle.half_store.proofs.lemmas.table.Slots.{first_none}

-- the hashes are those that are stored, counted by each test
abbrev pub SameCounts : List ℕ → List (Option ℕ) → Type 0
SameCounts hashes slots = (test : ℕ → Bool) → count_by test hashes ≡ count_by (stored test) slots

-- no more buckets are full than hashes are held
full_most : (hashes : List ℕ) (slots : List (Option ℕ)) → SameCounts hashes slots → (Q : ℕ → Bool)
    → ((q : ℕ) → q < length slots → Q q ≡ true → slot_at slots q ≢ None) → count_to Q (length slots) ≤ length hashes
full_most hashes slots counted Q full =
    let any : ℕ → Bool = λ h. true in
    let some = count_to-le Q (λ q. stored any (slot_at slots q)) (length slots) (λ q in_q e.
    elim (slot_cases (slot_at slots q)) [ inl z ↦ absurd (full q in_q e z) | inr (h, is) ↦ rw is refl ]) in
    omega (arith, count_by-le-length any hashes, counted any, count_by-count_to (stored any) slots None)

-- so one bucket is empty if there are fewer hashes
pub some_vacant : (hashes : List ℕ) (slots : List (Option ℕ)) → SameCounts hashes slots
    → length hashes < length slots → HasVacantSlot slots
some_vacant hashes slots counted few =
    elim (first_none slots (λ k. k) (length slots)) [
      | inr (k, l, none, before) ↦ (k, l, none)
      | inl all ↦
          let most = full_most hashes slots counted (λ p. true) (λ p in_p e. all p in_p) in
          absurd (omega (arith, most, below-const (length slots) 1))
    ]

module _ (slots : List (Option ℕ)) where
  abbrev m : ℕ
  m = length slots

  -- is the bucket one of the first d from `start`, with this hash?
  abbrev passes : ℕ → ℕ → ℕ → ℕ → Bool
  passes start hash d p = nat_lt (probe_distance m start p) d && stored (λ held. held == hash) (slot_at slots p)

  -- how many pairs of this hash lie in the first d buckets from `start`
  abbrev pub passed : ℕ → ℕ → ℕ → ℕ
  passed start hash d = count_to (passes start hash d) m

  pub passed-zero : (start hash : ℕ) → passed start hash 0 ≡ 0
  passed-zero start hash = count_to-none (passes start hash 0) m (λ p l. and_left _ _ (le-ltb (probe_distance m start p) 0 (omega arith)))

  same_and : (a b c : Bool) → a ≡ b → (a && c) ≡ (b && c)
  same_and a b c e = ap (λ x. x && c) e

  same_order : (s d : ℕ) → s ≢ d → nat_lt s d ≡ nat_lt s (d + 1)
  same_order s d ne = grind (arith, common_steps, le-ltb, lt-ltb)

  pub passed-skip : (start hash d p : ℕ) → start < m → p < m → probe_distance m start p ≡ d
      → stored (λ held. held == hash) (slot_at slots p) ≡ false → passed start hash (d + 1) ≡ passed start hash d
  passed-skip start hash d p in_start in_p at other = grind (arith, common_steps, and_right, count_to-same, distance_same, same_and, same_order)

  pub passed-one : (start hash d p : ℕ) → start < m → p < m → probe_distance m start p ≡ d → slot_at slots p ≡ Some hash
      → passed start hash (d + 1) ≡ passed start hash d + 1
  passed-one start hash d p in_start in_p at is =
      count_to_more (passes start hash d) (passes start hash (d + 1)) m p in_p
      (and_left _ _ (le-ltb (probe_distance m start p) d (omega arith)))
      (and_from _ _ (lt-ltb (probe_distance m start p) (d + 1) (omega arith))
      (passes_stored slots (λ held. held == hash) (slot_at slots p) hash is (eq-eqb hash hash refl)))
      (λ q in_q ne. same_and _ _ _ (same_order _ _ (λ e. ne (distance_same m start in_start q p in_q in_p (e ∙ sym at)))))

  pub passed-le : (start hash d : ℕ) → passed start hash d ≤ count_by (stored (λ held. held == hash)) slots
  passed-le start hash d =
      rw (count_by-count_to (stored (λ held. held == hash)) slots None)
      (count_to-le (passes start hash d) _ m (λ q in_q e. (and_parts _ _ e).1))

module _ (slots : List (Option ℕ)) (ordered : ProbeInvariant slots) where
  -- a pair that a probe comes to lies before where the probe for its hash ends
  pub found-before : (hash p v : ℕ) → slot_at slots p ≡ Some hash → IsSlotVacancy slots hash v
      → distance_from_home slots hash p < distance_from_home slots hash v
  found-before hash p v is w = ordered.before p v hash is w.within w.vacant

  -- all pairs of the hash lie before where the probe ends
  pub passed-all : (hash p : ℕ) → IsSlotVacancy slots hash p
      → passed slots (home (m slots) hash) hash (distance_from_home slots hash p) ≡ count_by (stored (λ held. held == hash)) slots
  passed-all hash p w =
      rw (count_by-count_to (stored (λ held. held == hash)) slots None)
      (count_to-same _ _ (m slots)
      (λ q in_q. grind (arith, common_steps, nat_tests, slot_cases (slot_at slots q), found-before hash q p)))

  module _ (hashes : List ℕ) (counted : SameCounts hashes slots) where
    pub loaded_where_full : (b : ℕ) → slot_at slots b ≢ None → HasVacantSlot slots → bucket_is_loaded hashes (m slots) b ≡ true
    unfolding load
    loaded_where_full b full v =
        let in_b = full-lt slots b full in
        let alone : (p : ℕ) → p < m slots → probe_distance (m slots) p b < 1 → slot_at slots p ≢ None = λ p in_p near.
        let same : b ≡ p = omega (arith, distance_is (m slots) p b in_p) in
        subst (λ q. slot_at slots q ≢ None) same full in
        let l = full_loaded slots ordered b 1 in_b alone v in
        bucket_is_loaded-yes hashes (m slots) b
        (l.0, l.1, l.2, rw (counted (λ hash. nat_lt (probe_distance (m slots) (home (m slots) hash) b) l.0)) l.3)

    pub unloaded_where_vacant : (b : ℕ) → b < (m slots) → slot_at slots b ≡ None → bucket_is_loaded hashes (m slots) b ≡ false
    unfolding load
    unloaded_where_vacant b in_b none =
        bucket_is_loaded-no hashes (m slots) b
        (λ size one small. rw (counted (λ hash. nat_lt (probe_distance (m slots) (home (m slots) hash) b) size))
        (vacant_unloaded slots ordered b in_b none size one small))

    full_on_the_way : (b p : ℕ) → b < (m slots) → p < (m slots) → FullBefore slots b p → (k : ℕ) → k < probe_distance (m slots) b p
        → slot_at slots (bucket_after (m slots) b k) ≢ None
    full_on_the_way b p in_b in_p full k l = grind (arith, common_steps, bucket_after-lt, probe_distance-bucket_after, probe_distance-lt)

    -- a probe that ends at an empty bucket has read what `reach` says
    pub reach_at_vacancy : (hash p : ℕ) → IsSlotVacancy slots hash p → reach hashes (m slots) hash ≡ distance_from_home slots hash p + 1
    reach_at_vacancy hash p w =
        let in_p : p < (m slots) = w.within in
        let b : ℕ = home (m slots) hash in
        let in_b : b < (m slots) = home-lt (m slots) hash (omega arith) in
        let d : ℕ = probe_distance (m slots) b p in
        let l : d < (m slots) = probe_distance-lt (m slots) b in_b p in_p in
        let v : HasVacantSlot slots = (p, in_p, w.vacant) in
        let run : (k : ℕ) → k < d
        → bucket_is_loaded hashes (m slots) (bucket_after (m slots) b k) ≡ true =
        λ k x. loaded_where_full (bucket_after (m slots) b k) (full_on_the_way b p in_b in_p w.passed k x) v in
        let stop : bucket_is_loaded hashes (m slots) (bucket_after (m slots) b d) ≡ false =
        ap (bucket_is_loaded hashes (m slots)) (bucket_after-probe_distance (m slots) b in_b p in_p) ∙ unloaded_where_vacant p in_p w.vacant in
        let r = loaded_run-is hashes (m slots) ((m slots) - 1) d b in_b (omega arith) (omega arith) run (λ x. stop) in
        reach-some hashes (m slots) hash (omega arith) ∙ omega arith

    -- a probe that comes to a pair of its hash has not come so far
    pub reach_past_pair : (hash p : ℕ) → slot_at slots p ≡ Some hash → HasVacantSlot slots
        → distance_from_home slots hash p + 2 ≤ reach hashes (m slots) hash
    reach_past_pair hash p is v =
        let w = vacancy_for slots hash v in
        let near = found-before hash p w.0 is w.1 in
        omega (arith, reach_at_vacancy hash w.0 w.1)

    -- as many buckets are full as pairs are held
    pub reach_short : (hash : ℕ) → HasVacantSlot slots → reach hashes (m slots) hash ≤ length hashes + 1
    reach_short hash v =
        let w = vacancy_for slots hash v in
        let b : ℕ = home (m slots) hash in
        let in_b : b < (m slots) = home-lt (m slots) hash (omega (arith, w.1.within)) in
        let back : ℕ = probe_distance (m slots) b w.0 in
        let l = probe_distance-lt (m slots) b in_b w.0 w.1.within in
        let few = full_most hashes slots counted (λ q. nat_lt (probe_distance (m slots) b q) back)
        (λ q in_q near. w.1.passed q in_q (ltb-true _ _ near)) in
        omega (arith, ahead_size (m slots) b back in_b (omega arith), reach_at_vacancy hash w.0 w.1)

-- a search has passed full buckets, each counted; each pair of the hash among them was compared once, and refused
pub record SearchedTo (slots : List (Option ℕ)) (hash : ℕ) (Refused : ℕ → Type 0) (bucket : ℕ) (old new : Work) : Type 0 where
  pub probe : Probes slots hash bucket
  pub asked : new.asked ≡ old.asked
  pub looked : new.looked ≡ old.looked + distance_from_home slots hash bucket
  pub compared : new.compared ≡ old.compared + passed slots (home (length slots) hash) hash (distance_from_home slots hash bucket)
  pub refused : (other : ℕ) → slot_at slots other ≡ Some hash → distance_from_home slots hash other < distance_from_home slots hash bucket
      → Refused other

pub Searches-start : (slots : List (Option ℕ)) (hash : ℕ) (Refused : ℕ → Type 0) (bucket : ℕ) (w : Work) → bucket < length slots
    → bucket ≡ home (length slots) hash
    → SearchedTo slots hash Refused bucket w w
Searches-start slots hash Refused bucket w in_bucket e = grind (arith, common_steps, home_distance, passed-zero)

module _ {slots : List (Option ℕ)} {hash : ℕ} {Refused : ℕ → Type 0} {bucket : ℕ} {old now : Work}
    (s : SearchedTo slots hash Refused bucket old now) where
  abbrev far : ℕ
  far = distance_from_home slots hash bucket

  start_in : home (length slots) hash < length slots
  start_in = home-lt (length slots) hash (omega (arith, s.probe.inside))

  module _ (vacant : HasVacantSlot slots) (next : ℕ) (new : Work) (e : next ≡ bucket_after (length slots) bucket 1) where
    goes_on : slot_at slots bucket ≢ None → new.asked ≡ now.asked → new.looked ≡ now.looked + 1
        → new.compared ≡ old.compared + passed slots (home (length slots) hash) hash (far + 1)
        → (slot_at slots bucket ≡ Some hash → Refused bucket) → SearchedTo slots hash Refused next old new
    goes_on full asked looked compared here =
        let one = Probes-distance s.probe vacant next full e in
        record {
          probe = Probes-next s.probe vacant next full e;
          asked = asked ∙ s.asked;
          looked = omega (arith, looked, s.looked);
          compared = omega (arith, compared, ap (passed slots (home (length slots) hash) hash) one);
          refused = λ o is near. grind (arith, common_steps, distance_same, full-lt, full_from, start_in);
        }

    -- the bucket holds another hash
    pub Searches-skip : (held : ℕ) → slot_at slots bucket ≡ Some held → held ≢ hash → new ≡ looked_more 1 now
        → SearchedTo slots hash Refused next old new
    Searches-skip held is other work = grind (arith, common_steps, full_from, goes_on, ne_eqb, passed-skip, same_Some, start_in)

    -- the bucket holds a pair of the hash, which was refused
    pub Searches-refused : slot_at slots bucket ≡ Some hash → Refused bucket → new ≡ compared_more 1 (looked_more 1 now)
        → SearchedTo slots hash Refused next old new
    Searches-refused is no_match work = grind (arith, common_steps, full_from, goes_on, passed-one, start_in)

  -- the bucket holds a pair of the hash: at most as many comparisons as there are such pairs
  pub Searches-found : slot_at slots bucket ≡ Some hash → now.compared + 1 ≤ old.compared + count_by (stored (λ held. held == hash)) slots
  Searches-found is =
      let one = passed-one slots (home (length slots) hash) hash far bucket start_in s.probe.inside refl is in
      omega (arith, s.compared, one, passed-le slots (home (length slots) hash) hash (far + 1))

  module _ (ordered : ProbeInvariant slots) (none : slot_at slots bucket ≡ None) where
    -- the bucket is empty: each pair of the hash was compared
    pub Searches-missing : now.compared ≡ old.compared + count_by (stored (λ held. held == hash)) slots
    Searches-missing = omega (arith, s.compared, passed-all slots ordered hash bucket (Probes-vacancy s.probe none))

-- what the proofs of probes go by
pub ruleset probe_steps = (common_steps, Probes-ahead, full_from, home_distance, length-slots_from, looked_more-zero, mask_mod)
