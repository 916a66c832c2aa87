-- What the calls that make a map return: an empty map, or a clone, and what the clones of keys and of the builder must be for that.
use Rattle.std.specs.Prelude.{◌≡◌, ℕ, Bool, true, [], Option, None, Result, IsOk, IfOk, IfErr, false, List, length, Contains, if◌then◌else◌}
use Rattle.std.specs.Hash.BuildHasherDefault.{initial_hasher}
use Rattle.std.specs.Hash.FoldHasher.{initial}
use Rattle.std.specs.declared.hash.BuildHasherDefault.{BuildHasherDefault}
use Rattle.std.specs.declared.hash.FoldHasher.{FoldHasher}
use Rattle.half_store.specs.Capacity.{is_vec_for, least_capacity}
use Rattle.halfbrown.specs.Growth.{capacity_for_making, IsGrantable, Refusal, IsRefusal}
use Rattle.halfbrown.specs.State.{State, keys_of}
use Rattle.std.specs.List.{AllZip}

-- the builder that a map has if the call that makes it is given none: `DefaultHashBuilder::new()`
abbrev pub IsDefaultBuilder : BuildHasherDefault FoldHasher → Type 0
IsDefaultBuilder builder = initial_hasher builder ≡ initial

module _ {K V S : Type 0} (is_builder : S → Type 0) where
  -- an empty vector that has taken no memory; `is_builder` holds of its builder
  pub record IsNew (m : State K V S) : Type 0 where
    pub form : m.is_vec ≡ true
    pub pairs : m.pairs ≡ []
    pub capacity : m.capacity ≡ 0
    pub builder : is_builder m.builder

  module _ (limit needed : ℕ) where
    -- an empty map with exactly the least capacity of its form for this many pairs: a vector if the limit allows them, otherwise a table;
    -- `is_builder` holds of its builder
    pub record IsEmptyFor (m : State K V S) : Type 0 where
      pub form : m.is_vec ≡ is_vec_for limit needed
      pub pairs : m.pairs ≡ []
      pub capacity : m.capacity ≡ least_capacity m.is_vec needed
      pub builder : is_builder m.builder
      pub grantable : IsGrantable (capacity_for_making needed)

    -- such a map, or the reason why the capacity was refused
    pub record MakesOrRefuses (result : Result (State K V S) Refusal) : Type 0 where
      pub empty : IfOk result IsEmptyFor
      pub succeeds : capacity_for_making needed ≡ None → IsOk result
      pub refused : IfErr result (IsRefusal (capacity_for_making needed))

-- a clone is the value itself
abbrev pub ClonesAreCopies : {X : Type 0} → (X → X → Type 0) → Type 0
ClonesAreCopies {X} is_clone = (x copy : X) → is_clone x copy → copy ≡ x

-- in order, a clone of each key next to a clone of its value
abbrev pub ArePairClones : {K V : Type 0} → (K → K → Type 0) → (V → V → Type 0) → List (K × V) → List (K × V) → Type 0
ArePairClones key_clone value_clone old new = AllZip (λ p q. key_clone p.0 q.0 × value_clone p.1 q.1) old new

-- every clone of a held key equals the key
abbrev pub ClonesEqualKeys : {K V S : Type 0} → (K → K → Bool) → (K → K → Type 0) → State K V S → Type 0
ClonesEqualKeys {K} eq key_clone m = (k copy : K) → Contains (keys_of m.pairs) k → key_clone k copy → eq k copy ≡ true

-- in a table, this builder hashes each held key as the map's builder does
abbrev pub HashesAlike : {K V S : Type 0} → (S → K → ℕ) → State K V S → S → Type 0
HashesAlike {K} hash m builder = (k : K) → m.is_vec ≡ false → Contains (keys_of m.pairs) k → hash builder k ≡ hash m.builder k

-- new has clones of the pairs of old in the same order, which are the same if clones are copies, in the same form, and a clone of its
-- builder; a table has the same capacity, and a vector none to spare
pub record IsCloneOf {K V S : Type 0} (key_clone : K → K → Type 0) (value_clone : V → V → Type 0) (builder_clone : S → S → Type 0) (old new : State K V S) : Type 0 where
  pub form : new.is_vec ≡ old.is_vec
  pub pairs : ArePairClones key_clone value_clone old.pairs new.pairs
  pub same : ClonesAreCopies key_clone → ClonesAreCopies value_clone → new.pairs ≡ old.pairs
  pub capacity : new.capacity ≡ (if old.is_vec then length old.pairs else old.capacity)
  pub builder : builder_clone old.builder new.builder
