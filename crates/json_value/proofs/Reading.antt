-- What the items and the members that were read so far are.
use Rattle.json_value.proofs.Common.{◌≡◌, ℕ, Bool, is_some, List, [], ◌∷◌, ◌++◌, Option, Some, None, map, refl, ap, ◌∙◌, arith}
use Rattle.json_value.proofs.Common.{common_steps, map-append, Bor, bytes_eq, string_bytes, string_eq, put_all, put, set_value}
use Rattle.json_value.proofs.Common.{Json, item, value_view, items_view, members_view, items_of, json_of, merged, merged_items}
use Rattle.json_value.proofs.Common.{merged_values, Value}
use Rattle.std.proofs.lemmas.Map.Made.{lookup-map_values}
use Rattle.std.specs.Option.{option_map}
use Rattle.std.specs.declared.alloc.Global.{Global}
use Rattle.std.specs.declared.string.String.{String}
use Rattle.halfbrown.proofs.callers.Texts.{keyed_by-put}
use Rattle.halfbrown.specs.ByKey.{keyed_by}
use Rattle.json.specs.declared.value.Value as json

is_some_map : {X Y : Type 0} (h : X → Y) (o : Option X) → is_some (option_map h o) ≡ is_some o
is_some_map h None = refl
is_some_map h (Some x) = refl

module _ {K X Y : Type 0} (h : X → Y) where
  -- the pair, with h applied to its value
  abbrev pub over : K × X → K × Y
  over p = (p.0, h p.1)

  set_over : (test : K → Bool) (ps : List (K × X)) (v : X) → map over (set_value test ps v) ≡ set_value test (map over ps) (h v)
  set_over test [] v = refl
  set_over test (p ∷ ps) v = grind (arith, common_steps, set_over test ps v)

  pub put_over : (eq : K → K → Bool) (ps : List (K × X)) (k : K) (v : X) → map over (put eq ps k v) ≡ put eq (map over ps) k (h v)
  put_over eq ps k v =
      let held = lookup-map_values h (eq k) ps in
      grind (arith, common_steps, held, set_over (eq k) ps v, map-append over ps ((k, v) ∷ []), is_some_map)

-- the members of an object, as JSON
abbrev pub seen : List (String Global × Value) → List (List ℕ × Json)
seen ps = keyed_by string_bytes (map (over json_of) ps)

pub seen_put : (ps : List (String Global × Value)) (name : String Global) (v : Value)
    → seen (put string_eq ps name v) ≡ put bytes_eq (seen ps) (string_bytes name) (json_of v)
seen_put ps name v =
    ap (keyed_by string_bytes) (put_over json_of string_eq ps name v)
    ∙ keyed_by-put string_bytes bytes_eq (map (over json_of) ps) name (json_of v)

-- what a value that is read becomes
abbrev pub merged_view : {A : Type 0} → json.Value A → Json
merged_view v = merged (value_view v)

-- one member more
pub values_push : {A : Type 0} (ms : List (Bor (List ℕ) × json.Value A)) (m : Bor (List ℕ) × json.Value A)
    → merged_values (members_view (ms ++ m ∷ [])) ≡ merged_values (members_view ms) ++ (m.0.now, merged_view m.1) ∷ []
values_push [] m = refl
values_push (n ∷ ms) m = ap (λ l. (n.0.now, merged_view n.1) ∷ l) (values_push ms m)

pub put_all_push : (ps ms : List (List ℕ × Json)) (m : List ℕ × Json)
    → put_all bytes_eq ps (ms ++ m ∷ []) ≡ put bytes_eq (put_all bytes_eq ps ms) m.0 m.1
put_all_push ps [] m = refl
put_all_push ps (n ∷ ms) m = put_all_push (put bytes_eq ps n.0 n.1) ms m

-- the items of a list, as JSON
pub items_merged : {A : Type 0} (vs : List (json.Value A)) → merged_items (items_view vs) ≡ items_of (map merged_view vs)
items_merged [] = refl
items_merged (v ∷ vs) = ap (item (merged_view v)) (items_merged vs)
