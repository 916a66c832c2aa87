-- What contracts see of a map.
use Rattle.std.specs.Prelude.{◌≡◌, ℕ, ◌<◌, ◌≤◌, Bool, true, false, List, length}
pub use Rattle.std.specs.List.{IsDistinct}
pub use Rattle.std.specs.Map.{keys_of}
pub use Rattle.half_store.specs.Capacity.{IsTableCapacity}
use Rattle.half_store.specs.Store.{StoreState, store_code, IsPlaced, IsVacancy}
use Rattle.half_store.specs.declared.store.find.Found.{Found}
use Rattle.half_store.specs.declared.store.find.Vacancy.{Vacancy}
use Rattle.half_store.specs.Table.{TableState}
use base.Stored.{Coded, coded×, coded_via}

-- the form, the pairs in order, the capacity, and the builder; the table over the pairs is private
pub record State (K V S : Type 0) : Type 0 where
  pub is_vec : Bool
  pub pairs : List (K × V)
  pub capacity : ℕ
  pub builder : S
  table : TableState

module _ {K V S : Type 0} where
  -- the state that a store and a builder make
  abbrev pub state_in : StoreState K V → S → State K V S
  state_in s builder = record { is_vec = s.is_vec; pairs = s.pairs; capacity = s.capacity; builder = builder; table = s.table }

  -- the store of a state
  abbrev pub store_in : State K V S → StoreState K V
  store_in m = record { is_vec = m.is_vec; pairs = m.pairs; capacity = m.capacity; table = m.table }

  -- the state of these parts, with the table of another
  abbrev pub state_with : State K V S → Bool → List (K × V) → ℕ → S → State K V S
  state_with m is_vec pairs capacity builder = record m { is_vec = is_vec; pairs = pairs; capacity = capacity; builder = builder }

  -- a pair of this hash may be added here
  abbrev pub IsVacancyIn : State K V S → ℕ → Vacancy → Type 0
  IsVacancyIn m = IsVacancy (store_in m)

  -- a pair is held here
  abbrev pub IsPlacedIn : State K V S → Found → Type 0
  IsPlacedIn m = IsPlaced (store_in m)

  -- the map with these pairs, all else the same
  abbrev pub map_with_pairs : State K V S → List (K × V) → State K V S
  map_with_pairs m ps = record m { pairs = ps }

  -- new is old with these pairs: form, capacity and builder are the same; of the table nothing is said
  pub record WithPairs (old : State K V S) (ps : List (K × V)) (new : State K V S) : Type 0 where
    pub pairs : new.pairs ≡ ps
    pub form : new.is_vec ≡ old.is_vec
    pub capacity : new.capacity ≡ old.capacity
    pub builder : new.builder ≡ old.builder

-- how a state is told from its store and builder, as derived types are
abbrev pub state_code : {K V S : Type 0} → Coded K → Coded V → Coded S → Coded (State K V S)
state_code k v s = coded_via (coded× (store_code k v) s) (λ m. (store_in m, m.builder)) (λ a b e i. state_in (e i).0 (e i).1)

-- what holds of every map: no two held keys are equal, the pairs fit in the capacity, a vector's capacity is at most the limit, and a
-- table's is more than the limit, so never 0, and one of the series
pub record IsValid {K V S : Type 0} (limit : ℕ) (eq : K → K → Bool) (m : State K V S) : Type 0 where
  pub distinct : IsDistinct eq (keys_of m.pairs)
  pub fits : length m.pairs ≤ m.capacity
  pub vector_capacity : m.is_vec ≡ true → m.capacity ≤ limit
  pub table_capacity : m.is_vec ≡ false → IsTableCapacity m.capacity
  pub table_exceeds : m.is_vec ≡ false → limit < m.capacity
