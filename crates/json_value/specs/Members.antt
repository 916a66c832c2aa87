-- What contracts see of a value: the members that it has.
use Rattle.std.specs.Prelude.{◌≡◌, ◌&&◌, ℕ, Bool, true, false, List, [], ◌∷◌, ◌++◌, Option, None, Some}
use Rattle.std.specs.Map.{lookup}
use Rattle.std.specs.Str.{bytes_eq}
use Rattle.std.specs.String.{string_bytes, string_eq}
use Rattle.std.specs.declared.alloc.Global.{Global}
use Rattle.std.specs.declared.hash.BuildHasherDefault.{BuildHasherDefault}
use Rattle.std.specs.declared.hash.FoldHasher.{FoldHasher}
use Rattle.std.specs.declared.string.String.{String}
use Rattle.std.specs.declared.vec.Vec.{Vec}
use Rattle.halfbrown.specs.Collect.{put_all}
use Rattle.halfbrown.specs.State.{State}
use Rattle.json_value.specs.declared.value.error.Error.{Error}
use Rattle.json_value.specs.declared.value.Value.{Value}
use Rattle.json_value.specs.declared.value.Value.TheOpen.{Value-F}
use Rattle.json_value.specs.declared.value.Value.TheViews.{out-Value}

-- the map of names and values that an object is
abbrev pub Map : Type 0
Map = State (String Global) Value (BuildHasherDefault FoldHasher)

module _ {X : Type 0} (list : Vec Value Global → X) (object : Map → X) (other : X) where
  abbrev pub by_kind_in : Value-F Value → X
  by_kind_in Value-F.Null = other
  by_kind_in (Value-F.Bool b) = other
  by_kind_in (Value-F.Number s) = other
  by_kind_in (Value-F.Text s) = other
  by_kind_in (Value-F.List vs) = list vs
  by_kind_in (Value-F.Object m) = object m

  -- one thing for a list, another for an object, and a third for any other value
  abbrev pub by_kind : Value → X
  by_kind v = by_kind_in (out-Value v)

-- the map of an object, and the items of a list
abbrev pub as_object : Value → Option Map
as_object = by_kind (λ vs. None) Some None

abbrev pub as_list : Value → Option (Vec Value Global)
as_list = by_kind Some (λ m. None) None

-- whether it is an object
abbrev pub is_object : Value → Bool
is_object = by_kind (λ vs. false) (λ m. true) false

-- the members in order; only an object has any
abbrev pub members_of : Value → List (String Global × Value)
members_of = by_kind (λ vs. []) (λ m. m.pairs) []

-- whether a name is this one
abbrev pub is_named : List ℕ → String Global → Bool
is_named name k = bytes_eq name (string_bytes k)

-- the member of this name
abbrev pub member : Value → List ℕ → Option Value
member v name = lookup (is_named name) (members_of v)

-- from old to new some first ones of these members are put, and not all
abbrev pub PutsFirst : List (String Global × Value) → List (String Global × Value) → List (String Global × Value) → Type 0
PutsFirst old others new =
    (first left : List (String Global × Value)) × (refused : String Global × Value)
    × (others ≡ first ++ refused ∷ left) × (new ≡ put_all string_eq old first)

-- what a refused merge leaves: if one is no object, all as it was; otherwise some first members of the other are put
abbrev pub IsRefusedMerge : Error → Value → Value → Value → Type 0
IsRefusedMerge Error.Invalid old other new = ⊥
IsRefusedMerge Error.NotThere old other new = ⊥
IsRefusedMerge Error.NoObject old other new = (is_object old && is_object other ≡ false) × (new ≡ old)
IsRefusedMerge Error.Memory old other new =
    (is_object old && is_object other ≡ true) × PutsFirst (members_of old) (members_of other) (members_of new)
