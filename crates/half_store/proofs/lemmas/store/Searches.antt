-- What a search of the columns or of the index says of the store over them.
use Rattle.half_store.proofs.Common.{◌≡◌, ◌≤◌, length, refl, ◌∙◌, arith, ℕ, sym, ap, Bool, List, Some, Option, None, subst, length-keys_of}
use Rattle.half_store.proofs.Common.{slice_get_within, slice_get, ColumnsState, ReturnsAt, vector_of, table_of, TableState, TableSearch}
use Rattle.half_store.proofs.Common.{Work, capacity_of, buckets_of}
use Rattle.std.proofs.Common.{Ok, Err}
use Rattle.std.specs.Map.{keys_of}
use Rattle.half_store.specs.declared.store.find.Found.{Found}
use Rattle.half_store.specs.declared.store.find.Vacancy.{Vacancy}
use Rattle.half_store.specs.declared.vecmap.search.Scan.{Scan}
use Rattle.half_store.specs.Search.{IsFirstMatch, StoreSearch, IsVectorSearchCost, IsStoreSearchCost}
use Rattle.half_store.specs.Store.{StoreState, TableFitsColumns}
use Rattle.half_store.specs.Table.{IsTableSearchCost}
use Rattle.half_store.proofs.Common.{common_steps}

module _ {K V : Type 0} (columns : ColumnsState K V) {keys : List K} (same : keys ≡ keys_of columns.pairs) where
  -- a key of the columns is the one that was read
  read : {P : K → Type 0} (index : ℕ) → ((k : K) → slice_get keys index ≡ Some k → P k) → (k : K) → slice_get (keys_of columns.pairs) index ≡ Some k → P k
  read index told k at = told k (ap (λ ks. slice_get ks index) same ∙ at)

  -- it is a key of the pairs
  pub held : {ps : List (K × V)} → columns.pairs ≡ ps → {k : K} (index : ℕ) → slice_get keys index ≡ Some k → slice_get (keys_of ps) index ≡ Some k
  held is index at = ap (λ ps. slice_get (keys_of ps) index) (sym is) ∙ ap (λ ks. slice_get ks index) (sym same) ∙ at

  -- a table has no more hashes than there are keys
  pub hashed_within : {t : TableState} → TableFitsColumns columns t → length t.hashes ≤ length keys
  hashed_within kept = omega (arith, kept.len, ap length same, length-keys_of columns.pairs)

  -- what a search of a vector costs
  pub vector_cost : {s : StoreState K V} → vector_of columns ≡ s → {hash : ℕ} {scan : Scan} {found : Option ℕ} {old new : Work}
      → IsVectorSearchCost scan found (length keys) old new → IsStoreSearchCost s hash scan found old new
  vector_cost is work = grind (arith, common_steps, length-keys_of)

  module _ {returns : K → Bool → Type 0} {hash : ℕ} {s : StoreState K V} where
    pub vector_accepts : vector_of columns ≡ s → (found : Found) → IsFirstMatch returns keys (Some found.index) → StoreSearch returns s hash (Ok found)
    vector_accepts is found told = grind (arith, common_steps, length-keys_of, read)

    pub vector_refuses : vector_of columns ≡ s → {vacancy : Vacancy} → IsFirstMatch returns keys None → StoreSearch returns s hash (Err vacancy)
    vector_refuses is told = grind (arith, common_steps, length-keys_of, read, slice_get_within)

    module _ {t : TableState} (is : table_of columns t ≡ s) {old new : Work} where
      pub table_accepts : TableFitsColumns columns t → {index bucket : ℕ} → TableSearch (ReturnsAt returns keys) t hash (Ok (index, bucket)) old new
          → StoreSearch returns s hash (Ok (record { index = index; bucket = bucket }))
      table_accepts kept found = grind (arith, common_steps, read, slice_get_within)

      pub table_refuses : {bucket : ℕ} → TableSearch (ReturnsAt returns keys) t hash (Err bucket) old new
          → StoreSearch returns s hash (Err (record { hash = hash; bucket = bucket }))
      table_refuses {bucket} found =
          subst (λ (s : StoreState K V). StoreSearch returns s hash (Err (record { hash = hash; bucket = bucket }))) is (
            record { rejected = λ index k at own. read index (found.rejected index (own refl)) k at },
            λ some form. (refl, found.vacancy (omega (arith, some))),
          )

-- what a search of a table costs
pub table_cost : {K V : Type 0} (columns : ColumnsState K V) {t : TableState} {s : StoreState K V} → table_of columns t ≡ s → {hash : ℕ} {scan : Scan}
    {index : Option ℕ} {old new : Work} → IsTableSearchCost t hash index old new → t.buckets ≡ buckets_of (capacity_of t.buckets)
    → IsStoreSearchCost s hash scan index old new
table_cost columns is cost buckets = grind (arith, common_steps)
