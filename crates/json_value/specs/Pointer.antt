-- Where a path leads: JSON Pointer (RFC 6901). The byte 126 is `~`, 47 is `/`, 48 is `0` and 49 is `1`.
use Rattle.std.specs.Prelude.{◌≡◌, ◌≢◌, ◌⊎◌, ◌==◌, ◌&&◌, ◌||◌, ◌^◌, ℕ, Bool, false, not, List, [], ◌∷◌, length, Option, None, Some, option_map, option_and_then, nat_lt, slice_get, if◌then◌else◌}
use Rattle.std.specs.List.{list_all, slice_split}
use Rattle.std.specs.Str.{all_ascii_digits, bytes_eq}
use Rattle.std.specs.Str.Parse.{digits_value}
use Rattle.std.specs.Map.{keys_of, values_of}
use Rattle.std.specs.Option.{option_eq, option_map_or}
use Rattle.std.specs.Vec.{with_item}
use Rattle.std.specs.declared.alloc.Global.{Global}
use Rattle.std.specs.declared.string.String.{String}
use Rattle.halfbrown.specs.Pairs.{index_of as first_index, set_value_at}
use Rattle.halfbrown.specs.State.{map_with_pairs}
use Rattle.json_value.specs.Members.{by_kind, is_named}
use Rattle.json_value.specs.declared.value.Value.{Value}
use Rattle.json_value.specs.declared.value.Value.TheViews.{List as list_of, Object as object_of}

abbrev mutual
  -- the name that a step stands for, in which `~1` is `/` and `~0` is `~`: a step with another `~` stands for none
  pub name_of : List ℕ → Option (List ℕ)
  name_of [] = Some []
  name_of (c ∷ step) = if c == 126 then name_after_tilde step else option_map (λ name. c ∷ name) (name_of step)

  -- the same of what stands behind a `~`
  pub name_after_tilde : List ℕ → Option (List ℕ)
  name_after_tilde [] = None
  name_after_tilde (c ∷ step) =
      if c == 48 then option_map (λ name. 126 ∷ name) (name_of step)
      else (if c == 49 then option_map (λ name. 47 ∷ name) (name_of step) else None)

-- the index that a step writes: digits, and the first is a 0 only if it is the last too
unfoldable pub index_of : List ℕ → Option ℕ
index_of [] = None
index_of (c ∷ step) =
    if (not (c == 48) || length step == 0) && all_ascii_digits (c ∷ step) && nat_lt (digits_value 10 (c ∷ step)) (2 ^ 64)
    then Some (digits_value 10 (c ∷ step)) else None

-- the items of a list, or the values of the members of an object, in order
abbrev pub children : Value → List Value
children = by_kind (λ vs. vs.items) (λ m. values_of m.pairs) []

-- the index of the member that a step names
abbrev pub member_place : List (String Global × Value) → List ℕ → Option ℕ
member_place members step = option_and_then (λ name. first_index (is_named name) (keys_of members)) (name_of step)

-- where among them one step leads: in a list to the index that it writes, in an object to the member of its name
abbrev pub place : Value → List ℕ → Option ℕ
place v step = by_kind (λ vs. index_of step) (λ m. member_place m.pairs step) None v

-- what one step leads to
abbrev pub child : Value → List ℕ → Option Value
child v step = option_and_then (slice_get (children v)) (place v step)

-- where steps lead, one after the other
abbrev pub descendant : Value → List (List ℕ) → Option Value
descendant v [] = Some v
descendant v (step ∷ steps) = option_and_then (λ w. descendant w steps) (child v step)

-- where a path leads: its steps stand between its slashes, and it is empty or begins with one
abbrev pub value_at : Value → List ℕ → Option Value
value_at v [] = Some v
value_at v (c ∷ path) = if c == 47 then descendant v (slice_split (λ b. b == 47) path) else None

-- ---- changing what a path leads to

-- the value with w as its item, or as the value of its member, at this index
abbrev pub with_child : Value → ℕ → Value → Value
with_child v i w = by_kind (λ vs. list_of (with_item vs i w)) (λ m. object_of (map_with_pairs m (set_value_at m.pairs i w))) v v

-- the value in which w is what a step leads to
abbrev pub put_child : Value → List ℕ → Value → Value
put_child v step w = option_map_or (λ i. with_child v i w) (place v step) v

-- the value in which w is what the steps lead to
abbrev pub put_steps : Value → List (List ℕ) → Value → Value
put_steps v [] w = w
put_steps v (step ∷ steps) w = option_map_or (λ x. put_child v step (put_steps x steps w)) (child v step) v

-- the steps of a path, behind its first slash
abbrev pub steps_of : Option (List ℕ) → List (List ℕ)
steps_of None = []
steps_of (Some path) = slice_split (λ b. b == 47) path

-- the value in which w is what a path leads to, and nothing besides has changed
abbrev pub put_at : Value → List ℕ → Value → Value
put_at v [] w = w
put_at v (c ∷ path) w = if c == 47 then put_steps v (slice_split (λ b. b == 47) path) w else v

-- whether at some step these steps and others part, and go on in different items or members
abbrev pub Part : Value → List (List ℕ) → List (List ℕ) → Type 0
Part v [] others = ⊥
Part v (step ∷ steps) [] = ⊥
Part v (step ∷ steps) (other ∷ others) =
    (place v step ≢ place v other)
    ⊎ ((place v step ≡ place v other) × (x : Value) × (child v step ≡ Some x) × Part x steps others)

-- the same of two paths
abbrev pub PathsPart : Value → List ℕ → List ℕ → Type 0
PathsPart v [] other = ⊥
PathsPart v (c ∷ path) [] = ⊥
PathsPart v (c ∷ path) (d ∷ other) =
    (c ≡ 47) × (d ≡ 47) × Part v (slice_split (λ b. b == 47) path) (slice_split (λ b. b == 47) other)

-- ---- what shows that paths part

-- whether two lists of steps come to different names, before either ends
abbrev pub steps_differ : List (List ℕ) → List (List ℕ) → Bool
steps_differ [] others = false
steps_differ (step ∷ steps) [] = false
steps_differ (step ∷ steps) (other ∷ others) =
    if bytes_eq step other then steps_differ steps others else not (option_eq bytes_eq (name_of step) (name_of other))

-- the same of two paths
abbrev pub paths_differ : List ℕ → List ℕ → Bool
paths_differ [] other = false
paths_differ (c ∷ path) [] = false
paths_differ (c ∷ path) (d ∷ other) =
    c == 47 && d == 47 && steps_differ (slice_split (λ b. b == 47) path) (slice_split (λ b. b == 47) other)

-- whether a name stands for itself as a step: it has neither `/` nor `~`
abbrev pub is_plain : List ℕ → Bool
is_plain = list_all (λ c. not (c == 47) && not (c == 126))
