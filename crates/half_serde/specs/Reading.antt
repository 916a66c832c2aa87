-- What reading a map takes from a format, and what it makes.
use Rattle.std.specs.Prelude.{◌≡◌, ℕ, Bool, List, None, ⊤}
use Rattle.std.specs.List.{FoldsTo}
use Rattle.serde.specs.Event.{Event, map_begins, map_ends, key_begins}
use Rattle.serde.specs.Steps.{Gives}
use Rattle.serde.specs.declared.deserializer.Deserializer.{Deserializer}
use Rattle.halfbrown.specs.Collect.{collected}
use Rattle.halfbrown.specs.State.{State}

-- what an impl of serde's traits reads: they say nothing of it, and of the reader that it leaves
abbrev pub Anything : {F E M T : Type 0} → T → Deserializer F E M → Deserializer F E M → Type 0
Anything part old new = ⊤

module _ {F E M K V : Type 0} (key : K → Deserializer F E M → Deserializer F E M → Type 0) (value : V → Deserializer F E M → Deserializer F E M → Type 0) where
  -- the key of a pair is read, and then its value
  abbrev pub ReadsParts : Deserializer F E M → K × V → Deserializer F E M → Type 0
  ReadsParts old pair new = (named : Deserializer F E M) × key pair.0 old named × value pair.1 named new

module _ {F E M : Type 0} (gives : F → List ℕ → Event → F → Type 0) where
  module _ {K V : Type 0} (key : K → Deserializer F E M → Deserializer F E M → Type 0) (value : V → Deserializer F E M → Deserializer F E M → Type 0) where
    -- an entry begins, and its key and value are read
    abbrev pub ReadsEntry : Deserializer F E M → K × V → Deserializer F E M → Type 0
    ReadsEntry old pair new = (begun : Deserializer F E M) × Gives gives old key_begins begun × ReadsParts key value begun pair new

    module _ {S : Type 0} (eq : K → K → Bool) (is_default : S → Type 0) where
      -- entries are read one after another, and the map has the pairs that they gave; the first of equal keys stays, with the
      -- last value
      pub record ReadsPairs (old : Deserializer F E M) (map : State K V S) (new : Deserializer F E M) : Type 0 where
        pub gave : List (K × V)
        pub entries : FoldsTo ReadsEntry old gave new
        pub pairs : map.pairs ≡ collected eq gave
        pub builder : is_default map.builder

      -- a map begins, then its entries are read, and it ends
      pub record ReadsMap (old : Deserializer F E M) (map : State K V S) (new : Deserializer F E M) : Type 0 where
        pub begun : Deserializer F E M
        pub last : Deserializer F E M
        pub begins : Gives gives old (map_begins None) begun
        pub reads : ReadsPairs begun map last
        pub ends : Gives gives last map_ends new
