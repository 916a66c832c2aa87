-- `LimitedHashMap` as a type that may contain the type that contains it, by its values.
use Rattle.std.specs.Prelude.{◌≡◌, ◌≤◌, ℕ, Bool, true, List, [], length, map}
use Rattle.halfbrown.specs.Ghosts.{EqGhosts, HashGhosts, HasherGhosts, LimitGhosts}
use Rattle.std.specs.List.{IsDistinct, IsDistinct-prop}
use Rattle.half_store.specs.FormerNames.{keys_of, values_of, entry, on_value, entries_puts, entries_recoded, keys_on_values, values_listed, Former, children}
use Rattle.half_store.specs.FormerNames.{const, list, pair, this, via, refl, sym, ap, subst, ◌∙◌, ℕ_set, length-map, gcons, coded_ℕ}
use Rattle.half_store.specs.FormerNames.{coded_list, Coded-set, RattleType, listed, over, Alike, Recodes, struct_places, laid, view_places, Weighed, most}
use native.Mathlib.Bridge.{le_prop}
use Rattle.half_store.specs.Columns.{no_pairs}
use Rattle.half_store.specs.Store.{StoreState, vector_of}
use Rattle.half_store.specs.formers.store.Store as store
use Rattle.half_store.specs.HashMapFormer.{entries_eq-map}
use Rattle.halfbrown.specs.Equality.{same_pairs}
use Rattle.halfbrown.specs.Layout.{IsMapInvariant}
use Rattle.halfbrown.specs.State.{State, state_in, store_in}
use Rattle.halfbrown.specs.declared.map.LimitedHashMap.TheInside.{Inside}
use Rattle.halfbrown.specs.declared.map.LimitedHashMap.TheView.{view, invariant}
use Rattle.halfbrown.specs.contracts.map.LimitedHashMap as C
use Rattle.halfbrown.specs.contracts.map.LimitedHashMap.TheInside as I

abbrev pub the_former : Former {0} → Type 0 → Type 0 → Type 0 → Type 0 → Former {0}
the_former g K S L T = via (pair (store.the_former g K) (const S)) (λ X. State K (g.Of X) S) (λ X m. (store_in m, m.builder))
    (λ X v. state_in v.0 v.1) (λ X m. refl) (λ X v. refl)

abbrev pub the_weighed : {g : Former {0}} → Weighed g → (K S L T : Type 0) → Weighed (the_former g K S L T)
the_weighed w K S L T =
    record { weight = λ X μ m. most (w.weight X μ) (values_of m.pairs); puts = λ X μ m. entries_puts w K X μ m.pairs }

pub the_empty : (K S L T : Type 0) → K → S → L → T → State K ⊥ S
the_empty K S L T k s l t = state_in (vector_of no_pairs) s

abbrev pub the_items : (K S L T X : Type 0) → State K X S → List X
the_items K S L T X m = values_of m.pairs

pub the_items_listed : (K S L T X : Type 0) (m : State K X S) → listed _ (children (the_former this K S L T) X m) ≡ the_items K S L T X m
the_items_listed K S L T X m = values_listed K X m.pairs

abbrev fields : Type 0 → Type 0 → Type 0 → Type 0 → Former {0}
fields K S L T = via (pair (store.the_former this K) (const S)) (λ X. Inside K X S L T) (λ X u. (u.store, u.builder))
    (λ X v. record { store = v.0; builder = v.1; limit = record {} }) (λ X u. refl) (λ X v. refl)

module _ {K X : Type 0} (same : K → K → Bool) (hashed : K → ℕ) (limit : ℕ) (s : StoreState K X) where
  Kept-prop : IsProp (IsMapInvariant limit same hashed s)
  Kept-prop p q = λ i. record {
    distinct = IsDistinct-prop same (keys_of s.pairs) p.distinct q.distinct i;
    fits = le_prop p.fits q.fits i;
    allowed = (λ e. le_prop (p.allowed.0 e) (q.allowed.0 e) i, λ e. (le_prop (p.allowed.1 e).0 (q.allowed.1 e).0 i, ℕ_set _ _ (p.allowed.1 e).1 (q.allowed.1 e).1 i));
    hashed = λ e. Coded-set (coded_list coded_ℕ) _ _ (p.hashed e) (q.hashed e) i;
  }

  module _ {Y : Type 0} (h : X → Y) where
    abbrev KeptMapped : Type 0
    KeptMapped = IsMapInvariant limit same hashed ((store.the_former this K).map X Y h s)

    goes : IsMapInvariant limit same hashed s → KeptMapped
    goes p = record {
      distinct = subst (IsDistinct same) (sym (keys_on_values h s.pairs)) p.distinct;
      fits = subst (λ n. n ≤ s.capacity) (sym (length-map s.pairs (on_value h))) p.fits;
      hashed = λ e. p.hashed e ∙ ap (map hashed) (sym (keys_on_values h s.pairs));
      allowed = p.allowed;
    }

    comes : KeptMapped → IsMapInvariant limit same hashed s
    comes p = record {
      distinct = subst (IsDistinct same) (keys_on_values h s.pairs) p.distinct;
      fits = subst (λ n. n ≤ s.capacity) (length-map s.pairs (on_value h)) p.fits;
      hashed = λ e. p.hashed e ∙ ap (map hashed) (keys_on_values h s.pairs);
      allowed = p.allowed;
    }

module _ (K S L T : RattleType) (G : EqGhosts K.Denot) (H : HashGhosts K.Denot) (B : HasherGhosts S.Denot K.Denot T.Denot)
    (Z : LimitGhosts L.Denot) (R R' : RattleType) (h : R.Denot → R'.Denot) where
  abbrev former : Former {0}
  former = the_former this K.Denot S.Denot L.Denot T.Denot

  pub the_places : Alike R R' h → Alike (C.the_row K R S L T G H B Z) (C.the_row K R' S L T G H B Z) (former.map R.Denot R'.Denot h)
  the_places a = view_places (fields K.Denot S.Denot L.Denot T.Denot) former (λ X. view K.Denot X S.Denot L.Denot T.Denot G H B Z)
      (λ X Y k u. refl) (λ X u. refl)
      R.Denot R'.Denot h (C.the_row K R S L T G H B Z).coded (C.the_row K R' S L T G H B Z).coded
      (invariant K.Denot R.Denot S.Denot L.Denot T.Denot G H B Z) (invariant K.Denot R'.Denot S.Denot L.Denot T.Denot G H B Z)
      (λ u. Kept-prop G.eq (B.hash u.builder) Z.LIMIT u.store) (λ u. Kept-prop G.eq (B.hash u.builder) Z.LIMIT u.store)
      (λ u. goes G.eq (B.hash u.builder) Z.LIMIT u.store h) (λ u. comes G.eq (B.hash u.builder) Z.LIMIT u.store h)
      (over (I.the_row K R S L T G H B Z)) (over (I.the_row K R' S L T G H B Z))
      (struct_places (I.the_type K R S L T G H B Z) (I.the_type K R' S L T G H B Z)
      ((store.the_former this K.Denot).map R.Denot R'.Denot h, (λ s. s, (λ l. l, tt))) _ (λ d. refl) refl
      (laid _ _ _ (store.the_places K R R' h a), ((refl, (λ n. refl, λ n. refl)), ((refl, (λ n. refl, λ n. refl)), tt))))

  pub the_codes_placed : Recodes R R' h
      → Recodes (C.the_row K R S L T G H B Z) (C.the_row K R' S L T G H B Z) (former.map R.Denot R'.Denot h)
  the_codes_placed e m = ap (λ x. gcons x (S.coded.code m.builder)) (store.the_codes_placed K R R' h e (store_in m))

pub ruleset naturals = (entries_eq-map, refl)

pub the_eq_natural : (K S L T X Y : Type 0) (h : X → Y) (G : EqGhosts K) (H : HashGhosts K) (V : EqGhosts Y) (B : HasherGhosts S K T)
    (Z : LimitGhosts L) (m n : State K X S)
    → same_pairs G.eq V.eq ((the_former this K S L T).map X Y h m).pairs ((the_former this K S L T).map X Y h n).pairs
    ≡ same_pairs G.eq (λ a b. V.eq (h a) (h b)) m.pairs n.pairs
the_eq_natural K S L T X Y h G H V B Z m n = entries_eq-map G.eq (λ p q. V.eq p.1 q.1) (on_value h) m.pairs n.pairs (λ p. refl)
