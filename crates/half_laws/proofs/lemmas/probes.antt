-- What holds of `reach` for every list of held hashes.
use Rattle.half_laws.proofs.Common.{◌≡◌, ℕ, zero, suc, ◌-◌, ◌<◌, ◌≤◌, true, false, leb, nat_lt, inl, inr, ap, subst, arith}
use Rattle.half_laws.proofs.Common.{List, length, get_or, sum_by, Contains, common_steps, cases_lt, cases_eq, or_cases}
use Rattle.half_laws.proofs.Common.{leb-true, lt-ltb, both_ways, false≢true, get_or-le-sum_by, count_by-le-length}
use Rattle.half_store.specs.Reach.{home, probe_distance, bucket_after, load, loaded_within, bucket_is_loaded, loaded_run, reach}
use Rattle.half_store.specs.Reach.{IsLoaded}
use Rattle.half_laws.specs.ProbeLaws.{PassesLoaded, NothingHeldLaw, OneBucketLaw, SharedHomeLaw}
use Rattle.half_laws.specs.ProbeLaws.{ShortLaw, OnceRoundLaw, CrowdingLaw, StopsLaw}
use Rattle.half_store.proofs.lemmas.table.Circle.{distance_is, distance_self, after_is, bucket_after-zero, after_next}
use Rattle.half_store.proofs.lemmas.table.Circle.{bucket_after-lt}
use Rattle.half_store.proofs.lemmas.table.Counts.{tick, tick_yes}
unfoldable use Rattle.half_store.proofs.lemmas.table.Filled.{stop}
use Rattle.half_store.proofs.lemmas.table.Filled.{probe_stops, crowd_of_probe}
use Rattle.half_store.proofs.lemmas.table.History.{reach-permutation}
use Rattle.half_store.proofs.lemmas.table.Reach.{bucket_is_loaded-yes, loaded_run-is, loaded_run-ge, reach-none, reach-some}
use Rattle.half_store.proofs.lemmas.table.Slots.{home-lt}

module _ (hashes : List ℕ) (m : ℕ) where
  loaded_within-size : (last most : ℕ) → loaded_within hashes m last most ≡ true → (size : ℕ) × (1 ≤ size) × (size ≤ most)
      × (size ≤ load hashes m last size)
  unfolding loaded_within
  loaded_within-size last zero e = absurd (false≢true e)
  loaded_within-size last (suc most) e =
      elim (or_cases (leb (suc most) (load hashes m last (suc most))) (loaded_within hashes m last most) e) [
        | inl full ↦ (suc most, omega arith, omega arith, leb-true _ _ full)
        | inr rest ↦ let r = loaded_within-size last most rest in (r.0, r.1, omega (arith, r.2), r.3)
      ]

  -- what the test of a loaded bucket says
  loaded_from : (last : ℕ) → bucket_is_loaded hashes m last ≡ true → IsLoaded hashes m last
  loaded_from last e = let r = loaded_within-size last (m - 1) e in (r.0, r.1, omega (arith, r.1, r.2), r.3)

  load-le : (last size : ℕ) → load hashes m last size ≤ length hashes
  unfolding load
  load-le last size = count_by-le-length (λ hash. nat_lt (probe_distance m (home m hash) last) size) hashes

  pub loaded_run-le : (most bucket : ℕ) → loaded_run hashes m most bucket ≤ most
  unfolding loaded_run
  loaded_run-le zero bucket = omega arith
  loaded_run-le (suc most) bucket = grind (arith, common_steps, loaded_run-le most (bucket_after m bucket 1))

  -- each bucket of the run is loaded
  loaded_run-loaded : (most b : ℕ) → b < m → most < m → (k : ℕ) → k < loaded_run hashes m most b
      → bucket_is_loaded hashes m (bucket_after m b k) ≡ true
  unfolding loaded_run
  loaded_run-loaded zero b in_b in_most k l = absurd (omega arith)
  loaded_run-loaded (suc most) b in_b in_most zero l = grind (arith, common_steps, bucket_after-zero m b in_b)
  loaded_run-loaded (suc most) b in_b in_most (suc k) l =
      let small = loaded_run-le most (bucket_after m b 1) in
      let rest = loaded_run-loaded most (bucket_after m b 1) (bucket_after-lt m b in_b 1 (omega arith)) (omega arith) k in
      grind (arith, common_steps, rest, after_next m b in_b k)

  pub not_loaded : (last : ℕ) → bucket_is_loaded hashes m last ≡ false → IsLoaded hashes m last → ⊥
  not_loaded last e loaded = both_ways (bucket_is_loaded hashes m last) e (bucket_is_loaded-yes hashes m last loaded)

  pub unloaded : (last : ℕ) → (IsLoaded hashes m last → ⊥) → bucket_is_loaded hashes m last ≡ false
  unloaded last free = grind (arith, common_steps, loaded_from)

  -- the first bucket after a run is not
  run-stops : (hash : ℕ) → length hashes < m → IsLoaded hashes m (bucket_after m (home m hash) (loaded_run hashes m (m - 1) (home m hash))) → ⊥
  unfolding stop
  run-stops hash few =
      let run : reach hashes m hash - 1 ≡ loaded_run hashes m (m - 1) (home m hash) = omega (arith, reach-some hashes m hash (omega arith)) in
      not_loaded _ (subst (λ k. bucket_is_loaded hashes m (bucket_after m (home m hash) k) ≡ false) run (probe_stops m hashes hash few))

pub crowding_law : CrowdingLaw
crowding_law hashes m hash passed few more =
    let b : ℕ = home m hash in
    let in_b : b < m = home-lt m hash (omega arith) in
    let last : ℕ = bucket_after m b (passed - 1) in
    let crowd = crowd_of_probe m hashes hash few passed more in
    let within : passed < m = omega (arith, crowd.1, crowd.2) in
    record {
      last = last;
      size = crowd.0;
      within = bucket_after-lt m b in_b (passed - 1) (omega arith);
      partial = crowd.2;
      long = crowd.1;
      covers = λ step l. omega (
        arith,
        crowd.1,
        after_is m b (passed - 1),
        after_is m b step,
        distance_is m (bucket_after m b step) last (bucket_after-lt m b in_b step (omega arith)),
      );
      crowded = crowd.3;
    }

pub once_round_law : OnceRoundLaw
once_round_law hashes m hash = grind (arith, cases_lt 0 m, reach-some hashes m hash, reach-none hashes m hash, loaded_run-le)

pub short_law : ShortLaw
short_law hashes m hash =
    elim (cases_lt (length hashes) m) [
      | inr ge ↦ omega (arith, once_round_law hashes m hash)
      | inl few ↦
          let is = reach-some hashes m hash (omega arith) in
          let c = crowding_law hashes m hash (reach hashes m hash - 1) few (omega arith) in
          let long = c.long in
          let crowded = c.crowded in
          omega (arith, load-le hashes m c.last c.size)
    ]

-- a probe reads exactly one bucket if the first is not loaded
pub one_bucket_law : OneBucketLaw
one_bucket_law hashes m hash some =
    let b : ℕ = home m hash in
    let in_b : b < m = home-lt m hash some in
    let start : bucket_after m b 0 ≡ b = bucket_after-zero m b in_b in
    let is : reach hashes m hash ≡ suc (loaded_run hashes m (m - 1) b) = reach-some hashes m hash some in (
      λ one (loaded : IsLoaded hashes m b).
          let part : 1 < m = omega (arith, loaded.1, loaded.2) in
          let first : (k : ℕ) → k < 1 → bucket_is_loaded hashes m (bucket_after m b k) ≡ true = λ k l.
          let none : k ≡ 0 = omega arith in
          rw (none, start) (bucket_is_loaded-yes hashes m b loaded) in
          let run = loaded_run-ge hashes m (m - 1) 1 b in_b (omega arith) (omega arith) first in
          omega arith,
      λ free.
          let none = loaded_run-is hashes m (m - 1) 0 b in_b (omega arith) (omega arith) (λ k l. absurd (omega arith))
          (λ l. rw start (unloaded hashes m b free)) in
          omega arith,
    )

pub nothing_held_law : NothingHeldLaw
nothing_held_law m hash some = grind (arith, common_steps, load-le, one_bucket_law)

-- a bucket that is home to a hash has a load
home-load : (hashes : List ℕ) (m held : ℕ) → 0 < m → Contains hashes held → 1 ≤ load hashes m (home m held) 1
unfolding load
home-load hashes m held some (k, in_k, is) =
    let test : ℕ → ℕ = λ x. tick (nat_lt (probe_distance m (home m x) (home m held)) 1) in
    let own : test held ≡ 1 = tick_yes _ (lt-ltb _ _ (omega (arith, distance_self m (home m held) (home-lt m held some)))) in
    let part : test (get_or hashes k held) ≤ sum_by test hashes = get_or-le-sum_by test hashes k held in_k in
    let same : test (get_or hashes k held) ≡ test held = ap test is in
    omega arith

pub shared_home_law : SharedHomeLaw
shared_home_law hashes m hash held more contained same =
    let some : 0 < m = omega arith in
    let full : 1 ≤ load hashes m (home m hash) 1 = subst (λ b. 1 ≤ load hashes m b 1) same (home-load hashes m held some contained) in
    elim (cases_eq (reach hashes m hash) 1) [
      | inl one ↦ absurd ((one_bucket_law hashes m hash some).0 one (1, omega arith, more, full))
      | inr ne ↦ omega (arith, reach-some hashes m hash some)
    ]

module _ (hashes : List ℕ) (m hash passed : ℕ) (few : length hashes < m) where
  abbrev b : ℕ
  b = home m hash

  in_b : b < m
  in_b = home-lt m hash (omega arith)

  abbrev run : ℕ
  run = loaded_run hashes m (m - 1) b

  stops_then : run ≡ passed → PassesLoaded hashes m hash passed
  stops_then e = record {
    loaded = λ step l. loaded_from hashes m (bucket_after m b step)
        (loaded_run-loaded hashes m (m - 1) b in_b (omega arith) step (omega arith));
    ended = λ loaded. run-stops hashes m hash few (rw e loaded);
  }

  stops_back : PassesLoaded hashes m hash passed → run ≡ passed
  stops_back p =
      elim (cases_lt run passed) [
        | inl l ↦ absurd (run-stops hashes m hash few (p.loaded run l))
        | inr ge ↦ loaded_run-is hashes m (m - 1) passed b in_b (omega arith) (omega (arith, loaded_run-le hashes m (m - 1) b))
            (λ k l. bucket_is_loaded-yes hashes m (bucket_after m b k) (p.loaded k l))
            (λ short. unloaded hashes m (bucket_after m b passed) p.ended)
      ]

-- a probe ends at the first bucket that is not loaded
pub stops_law : StopsLaw
stops_law hashes m hash passed few =
    let is : reach hashes m hash ≡ suc (loaded_run hashes m (m - 1) (home m hash)) = reach-some hashes m hash (omega arith) in
    (λ e. stops_then hashes m hash passed few (omega arith), λ p. let r = stops_back hashes m hash passed few p in omega arith)

pub ruleset probe_laws =
    (reach-permutation, reach-none, nothing_held_law, one_bucket_law, shared_home_law, short_law, once_round_law)
