-- What is written of the items of a list and the members of an object, one after another.
use Rattle.json_value.proofs.Common.{◌≡◌, ℕ, zero, suc, ◌<◌, ◌≤◌, length, get_or, List, [], ◌∷◌, ◌++◌, Some, map, Vec}
use Rattle.json_value.proofs.Common.{option_and_then, append-nil, refl, sym, ap, subst, ◌∙◌, arith, rules, append_assoc, Bor}
use Rattle.json_value.proofs.Common.{flat_map, deref_pair, string_bytes, State, Json, array, object, document, if_last}
use Rattle.json_value.proofs.Common.{max_depth, value, json_tokens, items_tokens, members_tokens, depth, items_depth}
use Rattle.json_value.proofs.Common.{members_depth, HasNumbers, ItemsHaveNumbers, MembersHaveNumbers, items_of, json_of, Value}
use Rattle.json_value.proofs.Common.{the_lemmas, Object}
use Rattle.std.specs.declared.alloc.Global.{Global}
use Rattle.std.specs.declared.hash.BuildHasherDefault.{BuildHasherDefault}
use Rattle.std.specs.declared.hash.FoldHasher.{FoldHasher}
use Rattle.std.specs.declared.string.String.{String}
use Rattle.json.proofs.Printed.Trees.{value-json_tokens}
use Rattle.json.specs.Lex.{tokens}
use Rattle.json.specs.Print.{print}
use Rattle.json.specs.Token.{Token, key}
use Rattle.json.specs.Token as token
use Rattle.json_value.proofs.Reading.{seen}
use Rattle.json_value.specs.Json.{members_of}
use Rattle.json_value.specs.declared.value.Value.TheViews.{List as list_of}

-- the members of an object
abbrev pub Members : Type 0
Members = State (String Global) Value (BuildHasherDefault FoldHasher)

-- the tokens of one value, and of one member
abbrev pub value_tokens : Value → List Token
value_tokens v = json_tokens (json_of v)

abbrev pub member_tokens : String Global × Value → List Token
member_tokens m = key (string_bytes m.0) ∷ value_tokens m.1

-- the members that an iterator gave
abbrev pub shown : List (Bor (String Global) × Bor Value) → List (String Global × Value)
shown = map deref_pair

pub items_written : (vs : List Value) → items_tokens (items_of (map json_of vs)) ≡ flat_map value_tokens vs ++ token.end_array ∷ []
items_written [] = refl
items_written (v ∷ vs) =
    ap (λ ts. value_tokens v ++ ts) (items_written vs) ∙ sym (append_assoc (value_tokens v) (flat_map value_tokens vs) _)

pub members_written : (ms : List (String Global × Value))
    → members_tokens (members_of (seen ms)) ≡ flat_map member_tokens ms ++ token.end_object ∷ []
members_written [] = refl
members_written (m ∷ ms) =
    ap (λ ts. member_tokens m ++ ts) (members_written ms) ∙ sym (append_assoc (member_tokens m) (flat_map member_tokens ms) _)

pub items_nest : (d : ℕ) (vs : List Value) (v : Value) → items_depth (items_of (map json_of vs)) ≤ d → depth (json_of v) ≤ d
    → items_depth (items_of (map json_of (vs ++ v ∷ []))) ≤ d
items_nest d [] v before here = omega arith
items_nest d (w ∷ vs) v before here = omega (arith, items_nest d vs v (omega arith) here)

pub members_nest : (d : ℕ) (ms : List (String Global × Value)) (m : String Global × Value) → members_depth (members_of (seen ms)) ≤ d
    → depth (json_of m.1) ≤ d → members_depth (members_of (seen (ms ++ m ∷ []))) ≤ d
members_nest d [] m before here = omega arith
members_nest d (n ∷ ms) m before here = omega (arith, members_nest d ms m (omega arith) here)

pub json_of-List : (vs : Vec Value Global) → json_of (list_of vs) ≡ array (items_of (map json_of vs.items))
json_of-List vs = search (rules, the_lemmas)

pub json_of-Object : (m : Members) → json_of (Object m) ≡ object (members_of (seen m.pairs))
json_of-Object m = search (rules, the_lemmas)

-- the text of a value reads back as the value
pub reads_back : (j : Json) (bytes : List ℕ) (ts : List Token) → bytes ≡ print ts → tokens (print ts) ≡ ts → ts ≡ json_tokens j
    → depth j ≤ max_depth → document bytes ≡ Some j
reads_back j bytes ts written read same shallow =
    ap document written
    ∙ ap (option_and_then (λ p. if_last p.0 p.1))
    (ap (value max_depth) (read ∙ same ∙ sym (append-nil (json_tokens j))) ∙ value-json_tokens j max_depth [] shallow)

module _ (before begun all done : List Token) where
  between : (first last : Token) (middle : List Token) → begun ≡ before ++ first ∷ [] → all ≡ begun ++ middle → done ≡ all ++ last ∷ []
      → done ≡ before ++ first ∷ (middle ++ last ∷ [])
  between first last middle e f g =
      g ∙ ap (λ ts. ts ++ last ∷ []) (f ∙ ap (λ ts. ts ++ middle) e) ∙ append_assoc (before ++ first ∷ []) middle (last ∷ [])
      ∙ append_assoc before (first ∷ []) (middle ++ last ∷ [])

  pub list_tokens : (vs : Vec Value Global) → begun ≡ before ++ token.begin_array ∷ [] → all ≡ begun ++ flat_map value_tokens vs.items
      → done ≡ all ++ token.end_array ∷ [] → done ≡ before ++ value_tokens (list_of vs)
  list_tokens vs e f g =
      between token.begin_array token.end_array _ e f g
      ∙ ap (λ ts. before ++ token.begin_array ∷ ts) (sym (items_written vs.items)) ∙ ap (λ j. before ++ json_tokens j) (sym (json_of-List vs))

  pub object_tokens : (m : Members) → begun ≡ before ++ token.begin_object ∷ [] → all ≡ begun ++ flat_map member_tokens m.pairs
      → done ≡ all ++ token.end_object ∷ [] → done ≡ before ++ value_tokens (Object m)
  object_tokens m e f g =
      between token.begin_object token.end_object _ e f g
      ∙ ap (λ ts. before ++ token.begin_object ∷ ts) (sym (members_written m.pairs)) ∙ ap (λ j. before ++ json_tokens j) (sym (json_of-Object m))

-- only its JSON decides what can be written
pub writable_as : (v : Value) (j : Json) (d : ℕ) → json_of v ≡ j → HasNumbers (json_of v) → depth (json_of v) ≤ d → HasNumbers j × (depth j ≤ d)
writable_as v j d is numbers deep = subst (λ k. HasNumbers k × (depth k ≤ d)) is (numbers, deep)

-- a value within one that can be written can be written, as deep as there is room
pub item_writable : (vs : List Value) (i : ℕ) (v : Value) (d : ℕ) → i < length vs → v ≡ get_or vs i v
    → ItemsHaveNumbers (items_of (map json_of vs)) → items_depth (items_of (map json_of vs)) ≤ d
    → HasNumbers (json_of v) × (depth (json_of v) ≤ d)
item_writable [] i v d within is numbers deep = absurd (omega arith)
item_writable (w ∷ vs) zero v d within is numbers deep =
    subst (λ x. HasNumbers (json_of x) × (depth (json_of x) ≤ d)) (sym is) (numbers.0, omega arith)
item_writable (w ∷ vs) (suc i) v d within is numbers deep = item_writable vs i v d (omega arith) is numbers.1 (omega arith)

pub member_writable : (before after : List (String Global × Value)) (m : String Global × Value) (d : ℕ)
    → MembersHaveNumbers (members_of (seen (before ++ m ∷ after))) → members_depth (members_of (seen (before ++ m ∷ after))) ≤ d
    → HasNumbers (json_of m.1) × (depth (json_of m.1) ≤ d)
member_writable [] after m d numbers deep = (numbers.0, omega arith)
member_writable (n ∷ before) after m d numbers deep = member_writable before after m d numbers.1 (omega arith)
