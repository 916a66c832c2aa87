-- What the fields of a map keep.
use Rattle.std.specs.Prelude.{◌≡◌, ℕ, ◌≤◌, Bool, false, length, map}
use Rattle.half_store.specs.Capacity.{IsFormCapacity}
use Rattle.half_store.specs.Store.{StoreState}
use Rattle.halfbrown.specs.State.{IsDistinct, keys_of}

pub record IsMapInvariant {K V : Type 0} (limit : ℕ) (eq : K → K → Bool) (hash : K → ℕ) (store : StoreState K V) : Type 0 where
  pub distinct : IsDistinct eq (keys_of store.pairs)
  pub fits : length store.pairs ≤ store.capacity
  pub allowed : IsFormCapacity limit store.is_vec store.capacity
  pub hashed : store.is_vec ≡ false → store.table.hashes ≡ map hash (keys_of store.pairs)
