-- `Columns` as a type that may contain the type that contains it, by its values.
use Rattle.std.specs.Prelude.{◌≡◌, ℕ, List, [], ◌∷◌, length, map, vec_capacity}
use Rattle.std.specs.List.{zip}
use Rattle.half_store.specs.FormerNames.{values_of, entry, on_value, entries_puts, entries_recoded, values_listed, Former, children, const, list, one_more}
use Rattle.half_store.specs.FormerNames.{pair, this, via, refl, sym, ap, ◌∙◌, ℕ_set, length-map, gcons, coded_ℕ, RattleType, listed, over, Alike, Recodes}
use Rattle.half_store.specs.FormerNames.{struct_places, laid, held, view_places_where, Weighed, most}
use Rattle.std.specs.declared.alloc.Global.{Global}
use Rattle.std.specs.declared.vec.Vec.{Vec}
use Rattle.std.specs.contracts.alloc.Global as heap
use Rattle.std.specs.contracts.impls.GlobalAllocator.TheImpl.{ghosts}
use Rattle.std.specs.formers.vec.Vec as vec
use native.Mathlib.Omega.{arith}
use Rattle.half_store.specs.Columns.{ColumnsState, AreEven, no_pairs}
use Rattle.half_store.specs.declared.vecmap.Columns.TheInside.{Inside}
use Rattle.half_store.specs.declared.vecmap.Columns.TheView.{view, invariant}
use Rattle.half_store.specs.contracts.vecmap.Columns as C
use Rattle.half_store.specs.contracts.vecmap.Columns.TheInside as I

abbrev pub the_former : Former {0} → Type 0 → Former {0}
the_former g K = via (pair (list (entry g K)) (const ℕ)) (λ X. ColumnsState K (g.Of X)) (λ X c. (c.pairs, c.capacity))
    (λ X v. record { pairs = v.0; capacity = v.1 }) (λ X c. refl) (λ X v. refl)

abbrev pub the_weighed : {g : Former {0}} → Weighed g → (K : Type 0) → Weighed (the_former g K)
the_weighed w K = record { weight = λ X μ c. most (w.weight X μ) (values_of c.pairs); puts = λ X μ c. entries_puts w K X μ c.pairs }

pub the_empty : (K : Type 0) → K → ColumnsState K ⊥
the_empty K k = no_pairs

abbrev pub the_items : (K X : Type 0) → ColumnsState K X → List X
the_items K X c = values_of c.pairs

pub the_items_listed : (K X : Type 0) (c : ColumnsState K X) → listed _ (children (the_former this K) X c) ≡ the_items K X c
the_items_listed K X c = values_listed K X c.pairs

-- the two columns
abbrev fields : Type 0 → Former {0}
fields K = via (pair (const (Vec K Global)) (vec.the_former this Global)) (λ X. Inside K X) (λ X u. (u.keys, u.values))
    (λ X v. record { keys = v.0; values = v.1 }) (λ X u. refl) (λ X v. refl)

zip-map : {K X Y : Type 0} (h : X → Y) (ks : List K) (vs : List X) → zip ks (map h vs) ≡ map (on_value h) (zip ks vs)
zip-map h [] vs = refl
zip-map h (k ∷ ks) [] = refl
zip-map h (k ∷ ks) (v ∷ vs) = ap (λ ps. (k, h v) ∷ ps) (zip-map h ks vs)

zip-held : (K X : Type 0) (ks : List K) (vs : List X) → length vs ≡ length ks
    → held (list (entry this K)) X (zip ks vs) ≡ held (list this) X vs
zip-held K X [] [] e = refl
zip-held K X [] (v ∷ vs) e = absurd (omega arith)
zip-held K X (k ∷ ks) [] e = absurd (omega arith)
zip-held K X (k ∷ ks) (v ∷ vs) e =
    λ i. (one_more (zip-held K X ks vs (omega arith) i).0, (v, (zip-held K X ks vs (omega arith) i).1))

module _ {K X Y : Type 0} (h : X → Y) (u : Inside K X) where
  abbrev Even : Type 0
  Even = AreEven u.keys u.values

  Even-prop : IsProp Even
  Even-prop p q = λ i. record { length = ℕ_set _ _ p.length q.length i; capacity = ℕ_set _ _ p.capacity q.capacity i }

  abbrev EvenMapped : Type 0
  EvenMapped = AreEven u.keys (vec.mapped h u.values)

  goes : Even → EvenMapped
  goes e = record { length = length-map u.values.items h ∙ e.length; capacity = e.capacity }

  comes : EvenMapped → Even
  comes e = record { length = sym (length-map u.values.items h) ∙ e.length; capacity = e.capacity }

module _ (K R R' : RattleType) (h : R.Denot → R'.Denot) where
  pub the_places : Alike R R' h → Alike (C.the_row K R) (C.the_row K R') ((the_former this K.Denot).map R.Denot R'.Denot h)
  the_places a = view_places_where (fields K.Denot) (the_former this K.Denot) (λ X. view K.Denot X)
      (λ X Y k u i. record { pairs = zip-map k u.keys.items u.values.items i; capacity = vec_capacity u.keys })
      (λ X u. AreEven u.keys u.values) (λ X Y k u. comes k u) (λ X u e. zip-held K.Denot X u.keys.items u.values.items e.length)
      R.Denot R'.Denot h (C.the_row K R).coded (C.the_row K R').coded
      (invariant K.Denot R.Denot) (invariant K.Denot R'.Denot) (λ u. Even-prop h u) (λ u. Even-prop (λ y. y) u)
      (λ u. goes h u) (λ u. comes h u) (λ u e. e)
      (over (I.the_row K R)) (over (I.the_row K R'))
      (struct_places (I.the_type K R) (I.the_type K R') (λ ks. ks, (vec.mapped h, tt)) _ (λ d. refl) refl
      ((refl, (λ n. refl, λ n. refl)), (laid _ _ _ (vec.the_places heap.the_row ghosts R R' h a), tt)))

  pub the_codes_placed : Recodes R R' h → Recodes (C.the_row K R) (C.the_row K R') ((the_former this K.Denot).map R.Denot R'.Denot h)
  the_codes_placed e c = ap (λ x. gcons x (coded_ℕ.code c.capacity)) (entries_recoded K R R' h e c.pairs)
