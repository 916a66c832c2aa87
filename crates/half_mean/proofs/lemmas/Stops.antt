-- Where probes end, in a table that holds the hashes of a list.
use Rattle.std.proofs.Common.{◌≡◌, ◌≢◌, ℕ, suc, ◌+◌, ◌<◌, ◌≤◌, Bool, ◌==◌, ◌⊎◌, inl, inr, sym, ap, ◌∙◌, subst, arith}
use Rattle.std.proofs.Common.{List, ◌∷◌, length, Option, Some, None, count_by}
use Rattle.std.proofs.Math.Nat.{mod-eq_of_lt, mod_self}
use Rattle.std.proofs.lemmas.Grind.{common_steps}
use Rattle.std.proofs.lemmas.Bool.{cases_lt, ne_eqb, eq-eqb}
use Rattle.half_store.specs.Reach.{home, probe_distance, reach}
use Rattle.half_store.specs.Slots.{slot_at, stored, IsSlotVacancy, ProbeInvariant}
use Rattle.half_store.proofs.lemmas.table.Circle.{distance_is, distance_same}
use Rattle.half_store.proofs.lemmas.table.Counts.{count_to, count_to_more, count_by-count_to}
unfoldable pub use Rattle.half_store.proofs.lemmas.table.Filled.{stop}
pub use Rattle.half_store.proofs.lemmas.table.Filled.{slots_with}
use Rattle.half_store.proofs.lemmas.table.Filled.{table_of, at_stop}
use Rattle.half_store.proofs.lemmas.table.Probe.{SameCounts, reach_at_vacancy}
use Rattle.half_store.proofs.lemmas.table.Slots.{slot_cases, slot_set, slot_other, full_from, full-lt, home-lt}

-- what is known of the ends of all probes
pub record Ends (m : ℕ) (w : List ℕ) (slots : List (Option ℕ)) : Type 0 where
  pub inside : (h : ℕ) → stop m w h < m
  pub vacant : (h : ℕ) → slot_at slots (stop m w h) ≡ None
  pub first : (h g : ℕ) → g < m → slot_at slots g ≡ None → probe_distance m (home m h) (stop m w h) ≤ probe_distance m (home m h) g
  pub read : (h : ℕ) → reach w m h ≡ probe_distance m (home m h) (stop m w h) + 1
  pub entries : (h : ℕ) → count_by (λ x. stop m w x == stop m w h) w + 1 ≡ count_to (λ b. stop m w b == stop m w h) m

module _ (w : List ℕ) (slots : List (Option ℕ)) (ordered : ProbeInvariant slots) (counted : SameCounts w slots)
    (few : length w < length slots) where
  abbrev m : ℕ
  m = length slots

  in_home : (h : ℕ) → home m h < m
  in_home h = home-lt m h (omega arith)

  stop_at : (h : ℕ) → IsSlotVacancy slots h (stop m w h)
  stop_at h = at_stop w slots ordered counted few h

  first_vacant : (h g : ℕ) → g < m → slot_at slots g ≡ None → probe_distance m (home m h) (stop m w h) ≤ probe_distance m (home m h) g
  first_vacant h g in_g none = grind (arith, common_steps, stop_at h)

  first_from : (p g : ℕ) → p < m → g < m → slot_at slots g ≡ None → probe_distance m p (stop m w p) ≤ probe_distance m p g
  first_from p g in_p in_g none =
      subst (λ b. probe_distance m b (stop m w p) ≤ probe_distance m b g) (mod-eq_of_lt in_p) (first_vacant p g in_g none)

  -- a probe for a stored hash passes its bucket, so it ends where one from there does
  stored_stop : (p x : ℕ) → slot_at slots p ≡ Some x → stop m w x ≡ stop m w p
  stored_stop p x is =
      let in_p = full-lt slots p (full_from _ x is) in
      let before = ordered.before p (stop m w x) x is (stop_at x).within (stop_at x).vacant in
      let far = first_vacant x (stop m w p) (stop_at p).within (stop_at p).vacant in
      let near = first_from p (stop m w x) in_p (stop_at x).within (stop_at x).vacant in
      omega (arith, in_home x, (stop_at x).within, (stop_at p).within, distance_is)

  stop_vacant : (p : ℕ) → p < m → slot_at slots p ≡ None → stop m w p ≡ p
  stop_vacant p in_p none =
      omega (arith, first_from p p in_p in_p none, (stop_at p).within, distance_is)

  entries-more : (h : ℕ) → count_by (λ x. stop m w x == stop m w h) w + 1 ≡ count_to (λ b. stop m w b == stop m w h) m
  entries-more h =
      let e : ℕ = stop m w h in
      let ends_there : ℕ → Bool = λ x. stop m w x == e in
      let held : (p : ℕ) → p < m → p ≢ e → stored ends_there (slot_at slots p) ≡ ends_there p = λ p in_p ne.
      elim (slot_cases (slot_at slots p)) [
        | inl none ↦ rw none (sym (ne_eqb (stop m w p) e (λ q. ne (sym (stop_vacant p in_p none) ∙ q))))
        | inr (x, is) ↦ rw is (ap (λ s. s == e) (stored_stop p x is))
      ] in
      let own = stop_vacant e (stop_at h).within (stop_at h).vacant in
      let one = count_to_more (λ p. stored ends_there (slot_at slots p)) ends_there m e (stop_at h).within
      (rw (stop_at h).vacant) (eq-eqb _ _ own) held in
      omega (arith, counted ends_there, count_by-count_to (stored ends_there) slots None)

  pub ends : Ends m w slots
  ends = record {
    inside = λ h. (stop_at h).within;
    vacant = λ h. (stop_at h).vacant;
    first = first_vacant;
    read = λ h. reach_at_vacancy slots ordered w counted h (stop m w h) (stop_at h);
    entries = entries-more;
  }

pub ends_with : (m : ℕ) (w : List ℕ) → length w < m → Ends m w (slots_with m w)
ends_with m w few =
    let t = table_of m w (omega arith) in
    subst (λ n. Ends n w (slots_with m w)) t.long
    (ends w (slots_with m w) t.ordered t.counted (subst (λ n. length w < n) (sym t.long) few))

-- the home of the number behind a bucket
home_after : (m e : ℕ) → e < m → ((suc e < m) × (home m (suc e) ≡ suc e)) ⊎ ((suc e ≡ m) × (home m (suc e) ≡ 0))
home_after m e in_e =
    elim (cases_lt (suc e) m) [
      | inl l ↦ inl (l, mod-eq_of_lt l)
      | inr ge ↦ let end : suc e ≡ m = omega arith in inr (end, subst (λ n. home n (suc e) ≡ 0) end (mod_self (suc e)))
    ]

module _ (m : ℕ) (w : List ℕ) (x : ℕ) (few : length w + 1 < m) where
  abbrev e : ℕ
  e = stop m w x

  abbrev next : ℕ
  next = stop m w (suc e)

  old : Ends m w (slots_with m w)
  old = ends_with m w (omega arith)

  new : Ends m (x ∷ w) (slots_with m (x ∷ w))
  new = ends_with m (x ∷ w) (omega arith)

  -- the bucket that is filled is no longer empty, and each other is what it was
  vacant_other : (g : ℕ) → g ≢ e → slot_at (slots_with m w) g ≡ None → slot_at (slots_with m (x ∷ w)) g ≡ None
  vacant_other g ne none = slot_other (slots_with m w) e g (Some x) ne ∙ none

  vacant_before : (g : ℕ) → slot_at (slots_with m (x ∷ w)) g ≡ None → (g ≢ e) × (slot_at (slots_with m w) g ≡ None)
  vacant_before g none =
      let long = (table_of m w (omega arith)).long in
      let full = slot_set (slots_with m w) e (Some x) (omega (arith, old.inside x)) in
      let other : g ≢ e = λ is. full_from _ x (ap (slot_at (slots_with m (x ∷ w))) is ∙ full) none in
      (other, sym (slot_other (slots_with m w) e g (Some x) other) ∙ none)

  -- another bucket is empty
  pub next-other : next ≢ e
  next-other same =
      let z : ℕ = stop m (x ∷ w) x in
      let was = vacant_before z (new.vacant x) in
      let in_e = old.inside x in
      let behind = home_after m e in_e in
      let near = old.first (suc e) z (new.inside x) was.1 in
      was.0 (omega (arith, new.inside x, distance_is))

  -- an insertion joins the block of the hash to the one behind it
  pub stop-joins : (h : ℕ) → stop m w h ≡ e → stop m (x ∷ w) h ≡ next
  stop-joins h is =
      let s : ℕ = stop m (x ∷ w) h in
      let in_home_h = home-lt m h (omega arith) in
      let behind = home_after m e (old.inside x) in
      let was = vacant_before s (new.vacant h) in
      let near = new.first h next (old.inside (suc e)) (vacant_other next next-other (old.vacant (suc e))) in
      omega (arith, was.0, old.first h s (new.inside h) was.1, old.first (suc e) s (new.inside h) was.1, old.inside (suc e), new.inside h, distance_is)

  pub stop-stays : (h : ℕ) → stop m w h ≢ e → stop m (x ∷ w) h ≡ stop m w h
  stop-stays h other = grind (arith, common_steps, distance_same, home-lt, new, old, vacant_before, vacant_other)

-- the blocks behind two blocks are one only if those are
pub next-apart : (m : ℕ) (w : List ℕ) (h g : ℕ) → length w < m → stop m w (suc (stop m w h)) ≡ stop m w (suc (stop m w g))
    → stop m w h ≡ stop m w g
next-apart m w h g few same =
    let t = ends_with m w few in
    let e : ℕ = stop m w h in
    let p : ℕ = stop m w g in
    let behind_e = home_after m e (t.inside h) in
    let behind_p = home_after m p (t.inside g) in
    let near_e = t.first (suc e) p (t.inside g) (t.vacant g) in
    let near_p = t.first (suc p) e (t.inside h) (t.vacant h) in
    omega (arith, t.inside h, t.inside g, distance_is)
