-- The JSON that a value stands for.
use Rattle.std.specs.Prelude.{ℕ, List, [], ◌∷◌}
use Rattle.std.specs.Str.{bytes_eq}
use Rattle.std.specs.String.{string_bytes}
use Rattle.halfbrown.specs.Collect.{collected}
use Rattle.halfbrown.specs.ByKey.{keyed_by}
use Rattle.json.specs.Json.{Json, null, boolean, number, string, array, object, Items, no_items, item, Members, no_members, member}
use Rattle.json.specs.Value.{items_of}
use Rattle.json_value.specs.declared.value.Value.{Value, fold-Value}
use Rattle.json_value.specs.declared.value.Value.TheOpen.{Value-F}

-- an object of these members, in order
abbrev pub members_of : List (List ℕ × Json) → Members
members_of [] = no_members
members_of (m ∷ ms) = member m.0 m.1 (members_of ms)

-- one value, with the JSON of each value within it in its place
abbrev pub json_step : Value-F Json → Json
json_step Value-F.Null = null
json_step (Value-F.Bool b) = boolean b
json_step (Value-F.Number s) = number (string_bytes s)
json_step (Value-F.Text s) = string (string_bytes s)
json_step (Value-F.List vs) = array (items_of vs.items)
json_step (Value-F.Object m) = object (members_of (keyed_by string_bytes m.pairs))

-- the JSON of a value
abbrev pub json_of : Value → Json
json_of = fold-Value Json json_step

abbrev mutual
  -- the same JSON with one member of each name in an object: it has the last value, at the place of the first
  pub merged : Json → Json
  merged null = null
  merged (boolean b) = boolean b
  merged (number s) = number s
  merged (string s) = string s
  merged (array js) = array (merged_items js)
  merged (object ms) = object (members_of (collected bytes_eq (merged_values ms)))

  pub merged_items : Items → Items
  merged_items no_items = no_items
  merged_items (item j js) = item (merged j) (merged_items js)

  -- all members, their values merged
  pub merged_values : Members → List (List ℕ × Json)
  merged_values no_members = []
  merged_values (member s j ms) = (s, merged j) ∷ merged_values ms
