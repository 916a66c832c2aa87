-- The values of a set after some are added, and when two sets are equal.
use Rattle.std.proofs.Common.{◌≡◌, ◌↔◌, ℕ, ◌+◌, Bool, true, false, cond, List, [], ◌∷◌, ◌||◌, is_some, IsTrue, sym, refl, ap, subst, ◌∙◌, arith, suc, length, Bor}
use denote.Param.Always.{always_mut, mut_next}
use Rattle.std.proofs.iter.runs.Sources.{from_front}
use Rattle.std.proofs.lemmas.Grind.{common_steps}
use Rattle.std.proofs.lemmas.List.Folds.{list_any-append}
use Rattle.std.proofs.lemmas.List.Sums.{length-filter, count_by-le-length}
use Rattle.std.proofs.lemmas.Map.Entries.{length-keys_of}
use Rattle.std.proofs.lemmas.Map.Steps.{list_any_congr}
use Rattle.std.specs.Cmp.{IsEquivalence}
use Rattle.std.specs.Fn.{Mut, CalledAt}
use Rattle.std.specs.List.{FoldsTo, items_where_true, list_any}
use Rattle.std.specs.List.Retain.{IsFiltered}
use Rattle.std.specs.Map.{keys_of, remove_entry}
use Rattle.std.specs.Map.Calls.{CallableOnEachPair, RetainsPairs, SomeCallAtPair}
use Rattle.std.specs.Map.Iter.{TakesFirst, ShowsInOrder, deref}
use Rattle.std.specs.Set.{is_member, remove_key, IsUnion}
use Rattle.halfbrown.specs.ByKey.{add_key, add_keys}
use Rattle.halfbrown.specs.Equality.{same_lookup, same_pairs-Decides}
use Rattle.halfbrown.specs.Growth.{IsRefusal, capacity_for_insert}
use Rattle.halfbrown.specs.Refusal.{refusal_of}
use Rattle.halfbrown.specs.State.{State}
use Rattle.halfbrown.specs.declared.Refusal.{Refusal}
use Rattle.halfbrown.specs.Pairs.{value_of}
use Rattle.halfbrown.proofs.callers.Keys.{holds_by-any, keys_taken}
use Rattle.halfbrown.specs.Updates.{HasRemovedBy}
use Rattle.half_set.specs.Sets.{same_values, with_nothing}

module _ {T : Type 0} {eq : T → T → Bool} (laws : IsEquivalence eq) where
  member_added : (xs : List T) (k q : T) → is_member eq (add_key eq xs k) q ≡ (is_member eq xs q || eq q k)
  member_added xs k q = grind (arith, common_steps, list_any-append (eq q) xs (k ∷ []), list_any_congr laws q k xs)

  -- a set has what it had and what was added
  pub union_added : (xs more : List T) → IsUnion eq xs more (add_keys eq xs more)
  union_added xs [] q = grind (arith, common_steps)
  union_added xs (k ∷ more) q = grind (arith, common_steps, union_added (add_key eq xs k) more q, member_added xs k q)

  -- what was a member is one
  pub member_kept : (xs more : List T) (q : T) → is_member eq xs q ≡ true → is_member eq (add_keys eq xs more) q ≡ true
  member_kept xs more q held = union_added xs more q ∙ ap (λ b. b || is_member eq more q) held

-- a removal from the map leaves the other members
pub others_removed : {T V : Type 0} {eq : T → T → Bool} {test : T → Bool} (old new : List (T × V)) (x : T) → HasRemovedBy eq test old new
    → test x ≡ false → is_member eq (keys_of new) x ≡ is_member eq (keys_of old) x
others_removed {eq = eq} old new x has apart =
    sym (holds_by-any (eq x) new) ∙ ap is_some (has.others x apart) ∙ holds_by-any (eq x) old

-- the keys after a removal that keeps the order
pub keys_removed : {T V : Type 0} (test : T → Bool) (ps : List (T × V)) → keys_of (remove_entry test ps) ≡ remove_key test (keys_of ps)
keys_removed test [] = refl
keys_removed test (p ∷ ps) = grind (arith, common_steps, keys_removed test ps)

keys_chosen : {T V : Type 0} (b : Bool) (p : T × V) (ps : List (T × V)) (bs : List Bool) (xs : List T) → keys_of ps ≡ items_where_true bs xs
    → keys_of (cond b (p ∷ ps) ps) ≡ items_where_true (b ∷ bs) (p.0 ∷ xs)
keys_chosen true p ps bs xs more = ap (λ l. p.0 ∷ l) more
keys_chosen false p ps bs xs more = more

keys_of-with_nothing : {T : Type 0} (xs : List T) → keys_of (with_nothing xs) ≡ xs
keys_of-with_nothing [] = refl
keys_of-with_nothing (x ∷ xs) = ap (λ ys. x ∷ ys) (keys_of-with_nothing xs)

-- the pairs of a set are its values with nothing
pub with_nothing-keys_of : {T : Type 0} (pairs : List (T × Unit {0})) → with_nothing (keys_of pairs) ≡ pairs
with_nothing-keys_of [] = refl
with_nothing-keys_of (p ∷ pairs) = ap (λ ps. p ∷ ps) (with_nothing-keys_of pairs)

module _ {T : Type 0} {eq : T → T → Bool} (laws : IsEquivalence eq) where
  held_member : (xs : List T) (q : T) → is_some (value_of eq (with_nothing xs) q) ≡ is_member eq xs q
  held_member xs q = holds_by-any (eq q) (with_nothing xs) ∙ ap (list_any (eq q)) (keys_of-with_nothing xs)

  same_at : (xs ys : List T) (q : T)
      → (same_lookup eq (λ x y. true) (with_nothing xs) (with_nothing ys) q ≡ true) ↔ (is_member eq xs q ≡ is_member eq ys q)
  same_at xs ys q = grind (arith, common_steps, held_member xs q, held_member ys q)

  -- two lists have the same values exactly if each value is a member of both or of neither
  pub same_members : (xs ys : List T) → IsTrue (same_values eq xs ys) ↔ ((value : T) → is_member eq xs value ≡ is_member eq ys value)
  same_members xs ys =
      let law = same_pairs-Decides eq (λ x y. true) laws (with_nothing xs) (with_nothing ys) in
      (λ same value. (same_at xs ys value).0 (law.0 same value), λ alike. law.1 (λ value. (same_at xs ys value).1 (alike value)))

-- ---- `retain`

-- calls of a test of pairs are calls of a test of values, g, which is part of it
module _ {S F T : Type 0} (g : Mut F (Bor T × Unit {0}) Bool) (part : S → F) (R : S → T → Unit {0} → Bool → Unit {0} → S → Type 0)
    (calls : (s : S) (x : T) (v : Unit {0}) (b : Bool) (w : Unit {0}) (t : S) → R s x v b w t → CalledAt g (part s) x b (part t)) where
  callable_still : (ps : List (T × Unit {0})) (s t : S) → FoldsTo (SomeCallAtPair R) s ps t → always_mut g (part s) → always_mut g (part t)
  callable_still [] s t none always = subst (λ z. always_mut g (part z)) none always
  callable_still (p ∷ ps) s t called always =
      callable_still ps called.0 t called.2
      (mut_next g _ _ _ _ _ (calls s p.0 p.1 called.1.0 called.1.1 called.0 called.1.2).called refl always)

  -- so what may always be called may be called at each pair
  pub callable_each : (Q : S → T → Unit {0} → Type 0) → ((s : S) (x : T) (v : Unit {0}) → always_mut g (part s) → Q s x v)
      → (s : S) (ps : List (T × Unit {0})) → always_mut g (part s) → CallableOnEachPair R Q s ps
  callable_each Q takes s ps always = record { at = λ before after t x v e called. takes t x v (callable_still before s t called always) }

  pub retains_values : (s : S) (ps kept : List (T × Unit {0})) → RetainsPairs R s ps kept
      → IsFiltered (CalledAt g) (part s) (keys_of ps) (keys_of kept)
  retains_values s [] kept is = ([], part s, refl, refl, ap keys_of is)
  retains_values s (p ∷ ps) kept called =
      let rest = retains_values called.2 ps called.3 called.5 in (
        called.0 ∷ rest.0,
        rest.1,
        ap suc rest.2,
        (part called.2, calls s p.0 p.1 called.0 called.1 called.2 called.4, rest.3),
        ap keys_of called.6 ∙ keys_chosen called.0 (p.0, called.1) called.3 rest.0 (keys_of ps) rest.4,
      )

-- ---- what the runs of an iterator show

pub shows_in_order : {T : Type 0} → ShowsInOrder (deref {X = T})
shows_in_order = from_front (TakesFirst deref) deref (λ s. s) (λ s t h. ap length h.0) (λ s x t h. h)

-- ---- refusals

-- an insertion is refused for the reason that one pair more than there are would be
pub refusal_is : {K V S : Type 0} (limit : ℕ) (eq : K → K → Bool) (m : State K V S) (k : K) (why : Refusal)
    → IsRefusal (capacity_for_insert limit eq m k) why → why ≡ refusal_of (length (keys_of m.pairs) + 1)
refusal_is limit eq m k why is = grind (arith, common_steps, length-keys_of m.pairs)

-- a held key is refused only by the switch of a full vector
pub full_where_held : {T V S : Type 0} (limit : ℕ) (eq : T → T → Bool) (m : State T V S) (x : T) (why : Refusal)
    → IsRefusal (capacity_for_insert limit eq m x) why → is_member eq (keys_of m.pairs) x ≡ true → length (keys_of m.pairs) ≡ limit
full_where_held limit eq m x why is held = grind (arith, common_steps, holds_by-any (eq x) m.pairs, length-keys_of m.pairs)

pub ruleset set_facts = (refusal_is, full_where_held, union_added, member_kept, others_removed, keys_removed, keys_taken, shows_in_order, length-filter, count_by-le-length)
