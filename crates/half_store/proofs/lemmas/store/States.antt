-- What stays true of a store whose columns change.
use Rattle.half_store.proofs.Common.{◌≡◌, length, refl, ◌∙◌, arith, ℕ, zero, suc, sym, ap, Bool, List, Some, Option, None, subst, [], ◌∷◌, if◌then◌else◌}
use Rattle.half_store.proofs.Common.{common_steps, length-keys_of, same_Some, ColumnsState, set_key_at, set_value_at, set_values, swap_remove_at, vector_of}
use Rattle.half_store.proofs.Common.{table_of, TableState}
use Rattle.std.proofs.Common.{is_none}
use Rattle.half_store.proofs.lemmas.vecmap.Zip.{length-zip_even}
use Rattle.std.specs.Borrow.{Bor}
use Rattle.std.specs.Global.{Box}
use Rattle.half_store.specs.PairLists.{length-set_value_at}
use Rattle.half_store.specs.ValueReplacement.{pairs_if_kept, pairs_after_answer, ReplacesValue}
use Rattle.half_store.specs.Store.{StoreState, IsStore, TableFitsColumns, store_of}

module _ {K V : Type 0} where
  pub length-set_key_at : (ps : List (K × V)) (i : ℕ) (k : K) → length (set_key_at ps i k) ≡ length ps
  length-set_key_at [] i k = refl
  length-set_key_at (p ∷ ps) zero k = refl
  length-set_key_at (p ∷ ps) (suc i) k = ap suc (length-set_key_at ps i k)

  pub length-set_values : (ps : List (K × V)) (vs : List V) → length (set_values ps vs) ≡ length ps
  length-set_values [] vs = refl
  length-set_values (p ∷ ps) [] = refl
  length-set_values (p ∷ ps) (v ∷ vs) = ap suc (length-set_values ps vs)

  -- a store with no index is a vector of its columns
  pub vector_view : (columns : ColumnsState K V) {index : Option (Box TableState)} {s : StoreState K V} → index ≡ None → store_of columns index ≡ s
      → vector_of columns ≡ s
  vector_view columns is view = ap (store_of columns) (sym is) ∙ view

  -- and with one a table of both, if `t` is what the block contains
  pub table_view : (columns : ColumnsState K V) {t : TableState} {block : Box TableState} {index : Option (Box TableState)} {s : StoreState K V}
      → t ≡ block.value → index ≡ Some block → store_of columns index ≡ s → table_of columns t ≡ s
  table_view columns inside is view = ap (table_of columns) inside ∙ ap (store_of columns) (sym is) ∙ view

  -- which has a hash for each pair
  pub table_over : (columns : ColumnsState K V) {t : TableState} {block : Box TableState} {index : Option (Box TableState)}
      → t ≡ block.value → index ≡ Some block → IsStore columns index → TableFitsColumns columns t
  table_over columns inside is kept = subst (TableFitsColumns columns) (sym inside) (subst (IsStore columns) is kept)

  -- a store has the pairs of its columns
  pub pairs_of-store : (columns : ColumnsState K V) (index : Option (Box TableState)) → (store_of columns index).pairs ≡ columns.pairs
  pairs_of-store columns None = refl
  pairs_of-store columns (Some t) = refl

  -- as many pairs, with the same capacity, have the same index
  pub kept_store : (index : Option (Box TableState)) (old new : ColumnsState K V) → length new.pairs ≡ length old.pairs → new.capacity ≡ old.capacity
      → IsStore old index → IsStore new index
  kept_store index old new len capacity is = grind (arith, common_steps)

  module _ (is_vec : Bool) (old : List (K × V)) (index : ℕ) (new : List (K × V)) (key : K) where
    kept_by : (answer : Option V) → new ≡ pairs_after_answer is_vec old index key answer → None ≡ (if is_none answer then Some key else None)
        → (v : V) × (answer ≡ Some v) × (new ≡ pairs_if_kept is_vec old index key v)
    kept_by None is removed = absurd cc
    kept_by (Some v) is removed = (v, refl, is)

    lost_by : (k : K) (answer : Option V) → new ≡ pairs_after_answer is_vec old index key answer
        → Some k ≡ (if is_none answer then Some key else None) → (answer ≡ None) × (new ≡ swap_remove_at old index) × (key ≡ k)
    lost_by k None is removed = (refl, is, sym (same_Some k key removed))
    lost_by k (Some v) is removed = absurd cc

  module _ {returns : Bor K → V → Option V → Type 0} {is_vec : Bool} {old : List (K × V)} {index : ℕ} {new : List (K × V)} where
    -- if nothing was removed a value was returned
    pub kept_value : (r : ReplacesValue returns is_vec old index new None)
        → (v : V) × (r.answer ≡ Some v) × (new ≡ pairs_if_kept is_vec old index r.key v)
    kept_value r = kept_by is_vec old index new r.key r.answer r.pairs r.removed_is

    -- if a key was removed none was
    pub lost_pair : {k : K} (r : ReplacesValue returns is_vec old index new (Some k))
        → (r.answer ≡ None) × (new ≡ swap_remove_at old index) × (r.key ≡ k)
    lost_pair {k} r = lost_by is_vec old index new r.key k r.answer r.pairs r.removed_is

  -- what becomes of a pair is told of the store before
  pub replaces_in : {returns : Bor K → V → Option V → Type 0} {index : ℕ} {removed : Option K} {new : List (K × V)} {was s : StoreState K V}
      → was ≡ s → ReplacesValue returns was.is_vec was.pairs index new removed → ReplacesValue returns s.is_vec s.pairs index new removed
  replaces_in {returns} {index} {removed} {new} is = subst (λ (s : StoreState K V). ReplacesValue returns s.is_vec s.pairs index new removed) is

-- what the proofs of `Store` go by
pub ruleset store_steps = (common_steps, kept_store, kept_value, length-keys_of, length-set_key_at, length-set_value_at, length-set_values, length-zip_even, pairs_of-store)
