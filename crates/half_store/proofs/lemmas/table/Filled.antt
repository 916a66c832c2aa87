-- A table that insertions fill, and what searches for its pairs read.
use Rattle.half_store.proofs.Common.{◌≡◌, ◌≤◌, length, ◌∙◌, arith, ℕ, ◌-◌, ◌<◌, sym, ap, List, Some, Option, None, subst, [], ◌∷◌}
use Rattle.half_store.proofs.Common.{set, replicate, cases_lt, length-set, length-replicate, sum_by-cons}
use Rattle.half_store.proofs.Common.{nat_lt, false, bucket_is_loaded, reach, filling_reads_in, probe_distance, bucket_after, home, slot_at, ProbeInvariant, stored, IsSlotVacancy}
use Rattle.half_store.proofs.Common.{reads_up_to}
use Rattle.half_store.specs.Reach.{load}
use Rattle.std.proofs.lemmas.List.Folds.{sum_by-replicate}
use Rattle.std.proofs.lemmas.List.Sums.{sum_by-set}
use Rattle.half_store.proofs.lemmas.table.Circle.{bucket_after-probe_distance, distance_is, after_is, probe_distance-lt, bucket_after-lt}
use Rattle.half_store.proofs.lemmas.table.Counts.{tick}
use Rattle.half_store.proofs.lemmas.table.Layout.{ordered-add}
use Rattle.half_store.proofs.lemmas.table.Probe.{SameCounts, some_vacant, reach_at_vacancy, unloaded_where_vacant}
use Rattle.half_store.proofs.lemmas.table.Slots.{slot_set, slot_other, full_from, home-lt, vacancy_for, full_loaded}
use Rattle.half_store.proofs.lemmas.table.Sums.{below-zero, below-more, of_slot, slot_reads}
use Rattle.half_store.proofs.Common.{common_steps}

-- the bucket where an insertion probe for the hash ends
unfoldable pub stop : ℕ → List ℕ → ℕ → ℕ
stop m w h = bucket_after m (home m h) (reach w m h - 1)

-- what the buckets contain after the hashes were added, the last one first
abbrev pub slots_with : ℕ → List ℕ → List (Option ℕ)
slots_with m [] = replicate m None
slots_with m (x ∷ w) = set (slots_with m w) (stop m w x) (Some x)

-- the buckets contain the hashes, in the order that probes need
pub record IsTableOf (m : ℕ) (w : List ℕ) (slots : List (Option ℕ)) : Type 0 where
  pub long : length slots ≡ m
  pub ordered : ProbeInvariant slots
  pub counted : SameCounts w slots

module _ (w : List ℕ) (slots : List (Option ℕ)) (ordered : ProbeInvariant slots) (counted : SameCounts w slots)
    (few : length w < length slots) where
  abbrev m : ℕ
  m = length slots

  pub at_stop : (h : ℕ) → IsSlotVacancy slots h (stop m w h)
  unfolding stop
  at_stop h =
      let v = vacancy_for slots h (some_vacant w slots counted few) in
      let far : reach w m h - 1 ≡ probe_distance m (home m h) v.0 = omega (arith, reach_at_vacancy slots ordered w counted h v.0 v.1) in
      subst (IsSlotVacancy slots h) (sym (ap (bucket_after m (home m h)) far
      ∙ bucket_after-probe_distance m (home m h) (home-lt m h (omega arith)) v.0 v.1.within)) v.1

  -- a probe that reads more than some buckets has passed the last of a stretch that is home to as many hashes as it has buckets
  pub crowd : (h passed : ℕ) → passed < reach w m h
      → (size : ℕ) × (passed ≤ size) × (size < m) × (size ≤ load w m (bucket_after m (home m h) (passed - 1)) size)
  unfolding load
  crowd h passed more =
      let s = at_stop h in
      let read = reach_at_vacancy slots ordered w counted h (stop m w h) s in
      let b : ℕ = home m h in
      let in_b : b < m = home-lt m h (omega arith) in
      let last : ℕ = bucket_after m b (passed - 1) in
      let short = probe_distance-lt m b in_b (stop m w h) s.within in
      let in_last : last < m = bucket_after-lt m b in_b (passed - 1) (omega arith) in
      let is = full_loaded slots ordered last passed in_last
      (λ p in_p near. s.passed p in_p (grind (arith, common_steps, after_is, distance_is))) (some_vacant w slots counted few) in
      (is.0, is.1, is.2, rw (counted (λ hash. nat_lt (probe_distance m (home m hash) last) is.0)) is.3)

counted-add : (w : List ℕ) (slots : List (Option ℕ)) (p x : ℕ) → IsSlotVacancy slots x p → SameCounts w slots
    → SameCounts (x ∷ w) (set slots p (Some x))
counted-add w slots p x at counted test =
    let more = sum_by-set (λ o. tick (stored test o)) slots p (Some x) None at.within in
    grind (arith, common_steps, counted test, sum_by-cons, tick)

all_vacant : (m b : ℕ) → slot_at (replicate m None) b ≡ None
all_vacant m b = grind (arith, common_steps, cases_lt b m)

module _ (m : ℕ) (w : List ℕ) (t : IsTableOf m w (slots_with m w)) (few : length w < m) (x : ℕ) where
  at : IsSlotVacancy (slots_with m w) x (stop m w x)
  at = rw t.long at (at_stop w (slots_with m w) t.ordered t.counted (rw t.long few) x)

  reads : reads_up_to m x (stop m w x) ≡ reach w m x
  reads = sym (rw t.long at (reach_at_vacancy (slots_with m w) t.ordered w t.counted x (stop m w x) at))

pub table_of : (m : ℕ) (w : List ℕ) → length w ≤ m → IsTableOf m w (slots_with m w)
table_of m [] few = record {
  long = length-replicate {A = Option ℕ} m None;
  ordered = record { before = λ b v h is in_v none. absurd (full_from _ h is (all_vacant m b)) };
  counted = λ test. sym (sum_by-replicate (λ o. tick (stored test o)) m None ∙ omega arith);
}
table_of m (x ∷ w) few =
    let t = table_of m w (omega arith) in
    let v = at m w t (omega arith) x in
    record {
      long = length-set (slots_with m w) (stop m w x) (Some x) ∙ t.long;
      ordered = ordered-add (slots_with m w) (stop m w x) x v t.ordered;
      counted = counted-add w (slots_with m w) (stop m w x) x v t.counted;
    }

module _ (m : ℕ) (w : List ℕ) (h : ℕ) (few : length w < m) where
  abbrev made : IsTableOf m w (slots_with m w)
  made = table_of m w (omega arith)

  fewer : length w < length (slots_with m w)
  fewer = rw made.long few

  -- the bucket where a probe ends is not loaded
  pub probe_stops : bucket_is_loaded w m (stop m w h) ≡ false
  probe_stops =
      let v = at m w made few h in
      rw made.long at (unloaded_where_vacant (slots_with m w) made.ordered w made.counted (stop m w h) v.within v.vacant)

  pub crowd_of_probe : (passed : ℕ) → passed < reach w m h
      → (size : ℕ) × (passed ≤ size) × (size < m) × (size ≤ load w m (bucket_after m (home m h) (passed - 1)) size)
  crowd_of_probe passed = rw made.long at (crowd w (slots_with m w) made.ordered made.counted fewer h passed)

-- the searches for the pairs of that table read what the insertions did
pub filled : (m : ℕ) (w : List ℕ) → length w ≤ m → slot_reads m (slots_with m w) ≡ filling_reads_in m w
filled m [] few = below-zero m _ (λ p l. ap (of_slot (λ h. reads_up_to m h p)) (all_vacant m p))
filled m (x ∷ w) few =
    let t = table_of m w (omega arith) in
    let s : ℕ = stop m w x in
    let v = at m w t (omega arith) x in
    let in_s : s < m = subst (λ n. s < n) t.long v.within in
    let more = below-more m s (λ p. of_slot (λ h. reads_up_to m h p) (slot_at (slots_with m w) p))
    (λ p. of_slot (λ h. reads_up_to m h p) (slot_at (slots_with m (x ∷ w)) p)) in_s
    (ap (of_slot (λ h. reads_up_to m h s)) v.vacant)
    (λ p l ne. ap (of_slot (λ h. reads_up_to m h p)) (sym (slot_other (slots_with m w) s p (Some x) ne))) in
    let own : of_slot (λ h. reads_up_to m h s) (slot_at (slots_with m (x ∷ w)) s) ≡ reads_up_to m x s =
    ap (of_slot (λ h. reads_up_to m h s)) (slot_set (slots_with m w) s (Some x) v.within) in
    omega (arith, filled m w (omega arith), reads m w t (omega arith) x)
