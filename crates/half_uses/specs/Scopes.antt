-- What names mean in scopes within one another.
use Rattle.std.specs.Prelude.{Bool, List, [], ◌∷◌, Option, None, map, reverse}
use Rattle.std.specs.Option.{option_or}
use Rattle.halfbrown.specs.Pairs.{value_of, put}
use Rattle.halfbrown.specs.State.{State}

module _ {N M : Type 0} where
  -- the pairs of names and meanings of each of these maps, the last map first
  abbrev pub innermost_first : {S : Type 0} → List (State N M S) → List (List (N × M))
  innermost_first scopes = reverse (map (λ scope. scope.pairs) scopes)

  -- the names of the innermost scope, with their meanings
  abbrev pub here : List (List (N × M)) → List (N × M)
  here [] = []
  here (scope ∷ outer) = scope

  module _ (eq : N → N → Bool) where
    -- what a name means in these scopes, the innermost first: what the first of them that declares it says
    abbrev pub meaning : List (List (N × M)) → N → Option M
    meaning [] name = None
    meaning (scope ∷ outer) name = option_or (value_of eq scope name) (meaning outer name)

    -- the scopes once the innermost gives a name this meaning
    abbrev pub declared : List (List (N × M)) → N → M → List (List (N × M))
    declared [] name m = []
    declared (scope ∷ outer) name m = put eq scope name m ∷ outer
