-- What contracts see of a store.
use Rattle.std.specs.Prelude.{◌≡◌, ℕ, ◌+◌, ◌^◌, ◌<◌, ◌≤◌, Bool, true, false, List, [], ◌∷◌, ◌++◌, length, max, Option, None, Some, if◌then◌else◌}
use Rattle.std.specs.Prelude.{IfSome, Result, OnOk, OnErr, IfOk, IfErr}
use Rattle.std.specs.List.{AllZip}
use Rattle.std.specs.declared.alloc.AllocError.{AllocError}
use Rattle.std.specs.Global.{Box}
pub use Rattle.half_store.specs.declared.store.find.Found.{Found}
pub use Rattle.half_store.specs.declared.store.find.Vacancy.{Vacancy}
use Rattle.half_store.specs.Capacity.{capacity_of, least_table_capacity, least_capacity, wanted_capacity, capacity_needed, capacity_after, IsFormCapacity, is_vec_for, is_vec_shrunk, shrunk_capacity}
use Rattle.half_store.specs.Refusal.{Refusal, refusal_of, IsRefusal, IsGrantable}
use Rattle.half_store.specs.Columns.{ColumnsState}
use Rattle.half_store.specs.Table.{TableState, state_of_words, table_code, with_hash_in, IsTableVacancy, IsTablePlace}
use base.Stored.{Coded, coded×, coded_list, coded_ℕ, coded_bool, coded_via}

-- the form, the pairs in order, the capacity, and the table over them; a vector's has neither hashes nor buckets
pub record StoreState (K V : Type 0) : Type 0 where
  pub is_vec : Bool
  pub pairs : List (K × V)
  pub capacity : ℕ
  pub table : TableState

module _ {K V : Type 0} where
  -- a vector of these columns
  abbrev pub vector_of : ColumnsState K V → StoreState K V
  vector_of columns = record { is_vec = true; pairs = columns.pairs; capacity = columns.capacity; table = state_of_words [] [] }

  -- a table over these columns
  abbrev pub table_of : ColumnsState K V → TableState → StoreState K V
  table_of columns t = record { is_vec = false; pairs = columns.pairs; capacity = capacity_of t.buckets; table = t }

  -- columns without a table are a vector; a table stands in a block of its own
  abbrev pub store_of : ColumnsState K V → Option (Box TableState) → StoreState K V
  store_of columns None = vector_of columns
  store_of columns (Some t) = table_of columns t.value

  -- a table has a hash for each pair, and the capacity of the columns
  pub record TableFitsColumns (columns : ColumnsState K V) (t : TableState) : Type 0 where
    pub len : length t.hashes ≡ length columns.pairs
    pub same_capacity : capacity_of t.buckets ≡ columns.capacity

  -- what is always true of the columns and the table
  abbrev pub IsStore : ColumnsState K V → Option (Box TableState) → Type 0
  IsStore columns table = IfSome table (λ t. TableFitsColumns columns t.value)

  -- clones of the pairs in the same form, with the same stored hashes; a table has the same capacity, and a vector none to spare
  pub record IsStoreClone (key_clone : K → K → Type 0) (value_clone : V → V → Type 0) (old new : StoreState K V) : Type 0 where
    pub form : new.is_vec ≡ old.is_vec
    pub pairs : AllZip (λ p q. key_clone p.0 q.0 × value_clone p.1 q.1) old.pairs new.pairs
    pub capacity : new.capacity ≡ (if old.is_vec then length old.pairs else old.capacity)
    pub hashes : new.table.hashes ≡ old.table.hashes

  -- the form and the capacity stay
  pub record SameFormAndCapacity (old new : StoreState K V) : Type 0 where
    pub form : new.is_vec ≡ old.is_vec
    pub capacity : new.capacity ≡ old.capacity

  -- the store with these pairs, all else the same
  abbrev pub store_with_pairs : StoreState K V → List (K × V) → StoreState K V
  store_with_pairs s ps = record s { pairs = ps }

module _ {K V : Type 0} (limit needed : ℕ) where
  -- a store with no pairs and the least capacity of its form for this many: a vector if the limit allows them, otherwise a table
  pub record IsEmptyStoreFor (s : StoreState K V) : Type 0 where
    pub form : s.is_vec ≡ is_vec_for limit needed
    pub pairs : s.pairs ≡ []
    pub hashes : s.table.hashes ≡ []
    pub capacity : s.capacity ≡ least_capacity s.is_vec needed
    pub allowed : IsFormCapacity limit s.is_vec s.capacity

  -- such a store, or the reason why its memory was refused; for no pairs it takes none, and is not refused
  pub record MakesStore (result : Result (StoreState K V) Refusal) : Type 0 where
    pub made : IfOk result IsEmptyStoreFor
    pub grantable : OnOk result (IsGrantable (capacity_needed 0 needed))
    pub refused : IfErr result (IsRefusal (capacity_needed 0 needed))

-- an empty table with capacity for this many pairs, and the columns of a vector with the same capacity; on error nothing changes
pub record MakesTable {K V : Type 0} (old new : StoreState K V) (needed : ℕ) (result : Result (Box TableState) Refusal) : Type 0 where
  pub form : new.is_vec ≡ true
  pub pairs : new.pairs ≡ old.pairs
  pub hashes : IfOk result (λ t. t.value.hashes ≡ [])
  pub capacity : IfOk result (λ t. capacity_of t.value.buckets ≡ least_table_capacity needed)
  pub enough : OnOk result (needed ≤ least_table_capacity needed)
  pub series : OnOk result (least_table_capacity needed ≡ least_table_capacity (least_table_capacity needed))
  pub columns : OnOk result (new.capacity ≡ max old.capacity (least_table_capacity needed))
  pub grantable : OnOk result (needed ≤ 2 ^ 60)
  pub refused : IfErr result (λ why. why ≡ refusal_of needed)
  pub unchanged : OnErr result (new ≡ old)

module _ {K V : Type 0} (limit : ℕ) (s : StoreState K V) (additional : ℕ) where
  -- for how many pairs in all a reservation for this many more is
  abbrev pub reserve_wanted : ℕ
  reserve_wanted = wanted_capacity limit s.is_vec (length s.pairs + additional)

  -- the capacity that it needs, or none if there is enough
  abbrev pub capacity_for_reserve : Option ℕ
  capacity_for_reserve = capacity_needed s.capacity reserve_wanted

module _ {K V : Type 0} (limit : ℕ) (old new : StoreState K V) where
  -- a reservation for this many pairs more: if it is granted the capacity is enough for them, and if it is refused nothing changes
  pub record StoreReserves (additional : ℕ) (result : Result (Unit {0}) Refusal) : Type 0 where
    pub pairs : new.pairs ≡ old.pairs
    pub form : new.is_vec ≡ old.is_vec
    pub hashes : new.table.hashes ≡ old.table.hashes
    pub capacity : OnOk result (new.capacity ≡ capacity_after limit old.is_vec old.capacity (capacity_for_reserve limit old additional))
    pub enough : OnOk result (reserve_wanted limit old additional ≤ new.capacity)
    pub unneeded : OnOk result (reserve_wanted limit old additional ≤ old.capacity → new ≡ old)
    pub allowed : IsFormCapacity limit old.is_vec old.capacity → IsFormCapacity limit new.is_vec new.capacity
    pub grantable : OnOk result (IsGrantable (capacity_for_reserve limit old additional))
    pub refused : IfErr result (IsRefusal (capacity_for_reserve limit old additional))
    pub unchanged : OnErr result (new ≡ old)

  -- capacity, and a table that is not needed, are given back; only a smaller capacity for some pairs may be refused: then nothing changes
  pub record StoreShrinks (result : Result (Unit {0}) AllocError) : Type 0 where
    pub pairs : new.pairs ≡ old.pairs
    pub form : OnOk result (new.is_vec ≡ is_vec_shrunk limit old.is_vec (length old.pairs))
    pub capacity : OnOk result (new.capacity ≡ shrunk_capacity limit old.is_vec (length old.pairs))
    pub hashes : new.is_vec ≡ false → new.table.hashes ≡ old.table.hashes
    pub fits : OnOk result (length old.pairs ≤ new.capacity)
    pub allowed : IsFormCapacity limit old.is_vec old.capacity → length old.pairs ≤ old.capacity → IsFormCapacity limit new.is_vec new.capacity
    pub unchanged : OnErr result (new ≡ old)
    pub some : OnErr result (0 < shrunk_capacity limit old.is_vec (length old.pairs))
    pub less : OnErr result (shrunk_capacity limit old.is_vec (length old.pairs) < old.capacity)

-- a pair of this hash may be added here: in a table at the empty bucket where an insertion probe for it ends; a vector looks at neither
abbrev pub IsVacancy : {K V : Type 0} → StoreState K V → ℕ → Vacancy → Type 0
IsVacancy s hash vacancy = s.is_vec ≡ false → (vacancy.hash ≡ hash) × IsTableVacancy s.table hash vacancy.bucket

-- a pair is held here: in a table in this bucket; a vector looks at none
abbrev pub IsPlaced : {K V : Type 0} → StoreState K V → Found → Type 0
IsPlaced s found = s.is_vec ≡ false → IsTablePlace s.table found.index found.bucket

-- the store with one pair more, which is added here
abbrev pub store_pushed : {K V : Type 0} → StoreState K V → K → V → Vacancy → StoreState K V
store_pushed s k v vacancy =
    let table = if s.is_vec then s.table else with_hash_in s.table vacancy.hash vacancy.bucket in
    record s { pairs = s.pairs ++ (k, v) ∷ []; table = table }

abbrev pub store_code : {K V : Type 0} → Coded K → Coded V → Coded (StoreState K V)
store_code k v = coded_via (coded× coded_bool (coded× (coded_list (coded× k v)) (coded× coded_ℕ table_code)))
    (λ s. (s.is_vec, (s.pairs, (s.capacity, s.table))))
    (λ a b e i. record { is_vec = (e i).0; pairs = (e i).1.0; capacity = (e i).1.1.0; table = (e i).1.1.1 })
