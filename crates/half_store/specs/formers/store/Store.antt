-- `Store` as a type that may contain the type that contains it, by its values.
use Rattle.std.specs.Prelude.{◌≡◌, ℕ, Bool, List, Option, None, Some}
use Rattle.std.specs.Global.{Box}
use Rattle.half_store.specs.FormerNames.{values_of, entry, on_value, entries_puts, entries_recoded, values_listed, Former, children, const, list, pair, this}
use Rattle.half_store.specs.FormerNames.{via, refl, sym, ap, ◌∙◌, ℕ_set, length-map, gcons, coded×, coded_ℕ, coded_bool, RattleType, listed, over}
use Rattle.half_store.specs.FormerNames.{Alike, Recodes, struct_places, laid, held, view_places, Weighed, most}
use Rattle.half_store.specs.Columns.{ColumnsState, no_pairs}
use Rattle.half_store.specs.Store.{StoreState, IsStore, store_of, vector_of}
use Rattle.half_store.specs.Table.{TableState, table_code}
use Rattle.half_store.specs.declared.store.Store.TheInside.{Inside}
use Rattle.half_store.specs.declared.store.Store.TheView.{view, invariant}
use Rattle.half_store.specs.contracts.store.Store as C
use Rattle.half_store.specs.contracts.store.Store.TheInside as I
use Rattle.half_store.specs.formers.vecmap.Columns as columns

-- what a store has besides its form and its pairs
abbrev Rest : Type 0
Rest = ℕ × TableState

abbrev pub the_former : Former {0} → Type 0 → Former {0}
the_former g K = via (pair (const Bool) (pair (list (entry g K)) (const Rest))) (λ X. StoreState K (g.Of X))
    (λ X s. (s.is_vec, (s.pairs, (s.capacity, s.table))))
    (λ X v. record { is_vec = v.0; pairs = v.1.0; capacity = v.1.1.0; table = v.1.1.1 }) (λ X s. refl) (λ X v. refl)

abbrev pub the_weighed : {g : Former {0}} → Weighed g → (K : Type 0) → Weighed (the_former g K)
the_weighed w K = record { weight = λ X μ s. most (w.weight X μ) (values_of s.pairs); puts = λ X μ s. entries_puts w K X μ s.pairs }

pub the_empty : (K : Type 0) → K → StoreState K ⊥
the_empty K k = vector_of no_pairs

abbrev pub the_items : (K X : Type 0) → StoreState K X → List X
the_items K X s = values_of s.pairs

pub the_items_listed : (K X : Type 0) (s : StoreState K X) → listed _ (children (the_former this K) X s) ≡ the_items K X s
the_items_listed K X s = values_listed K X s.pairs

-- the columns, and the table if there is one
abbrev fields : Type 0 → Former {0}
fields K = via (pair (columns.the_former this K) (const (Option (Box TableState)))) (λ X. Inside K X) (λ X u. (u.columns, u.table))
    (λ X v. record { columns = v.0; table = v.1 }) (λ X u. refl) (λ X v. refl)

IsStore-prop : {K X : Type 0} (c : ColumnsState K X) (t : Option (Box TableState)) → IsProp (IsStore c t)
IsStore-prop c None p q = refl
IsStore-prop c (Some t) p q = λ i. record { len = ℕ_set _ _ p.len q.len i; same_capacity = ℕ_set _ _ p.same_capacity q.same_capacity i }

module _ {K X Y : Type 0} (h : X → Y) (c : ColumnsState K X) where
  abbrev mapped : ColumnsState K Y
  mapped = (columns.the_former this K).map X Y h c

  natural : (t : Option (Box TableState)) → store_of mapped t ≡ (the_former this K).map X Y h (store_of c t)
  natural None = refl
  natural (Some t) = refl

  goes : (t : Option (Box TableState)) → IsStore c t → IsStore mapped t
  goes None p = tt
  goes (Some t) p = record { len = p.len ∙ sym (length-map c.pairs (on_value h)); same_capacity = p.same_capacity }

  comes : (t : Option (Box TableState)) → IsStore mapped t → IsStore c t
  comes None p = tt
  comes (Some t) p = record { len = p.len ∙ length-map c.pairs (on_value h); same_capacity = p.same_capacity }

keeps : {K X : Type 0} (c : ColumnsState K X) (t : Option (Box TableState))
    → held (the_former this K) X (store_of c t) ≡ held (columns.the_former this K) X c
keeps c None = refl
keeps c (Some t) = refl

module _ (K R R' : RattleType) (h : R.Denot → R'.Denot) where
  pub the_places : Alike R R' h → Alike (C.the_row K R) (C.the_row K R') ((the_former this K.Denot).map R.Denot R'.Denot h)
  the_places a = view_places (fields K.Denot) (the_former this K.Denot) (λ X. view K.Denot X)
      (λ X Y k u. natural k u.columns u.table) (λ X u. keeps u.columns u.table)
      R.Denot R'.Denot h (C.the_row K R).coded (C.the_row K R').coded
      (invariant K.Denot R.Denot) (invariant K.Denot R'.Denot)
      (λ u. IsStore-prop u.columns u.table) (λ u. IsStore-prop u.columns u.table)
      (λ u. goes h u.columns u.table) (λ u. comes h u.columns u.table)
      (over (I.the_row K R)) (over (I.the_row K R'))
      (struct_places (I.the_type K R) (I.the_type K R') ((columns.the_former this K.Denot).map R.Denot R'.Denot h, (λ t. t, tt)) _
      (λ d. refl) refl (laid _ _ _ (columns.the_places K R R' h a), ((refl, (λ n. refl, λ n. refl)), tt)))

  pub the_codes_placed : Recodes R R' h → Recodes (C.the_row K R) (C.the_row K R') ((the_former this K.Denot).map R.Denot R'.Denot h)
  the_codes_placed e s =
      let rest = (coded× coded_ℕ table_code).code (s.capacity, s.table) in
      ap (λ x. gcons (coded_bool.code s.is_vec) (gcons x rest)) (entries_recoded K R R' h e s.pairs)
