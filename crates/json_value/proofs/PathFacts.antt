-- For callers: which paths part, so that one leads where it led once `set_at` has put a value at the other.
use Rattle.json_value.proofs.Common.{◌≡◌, ◌≢◌, ◌==◌, ℕ, zero, suc, not, Bool, true, false, cond, List, [], ◌∷◌, ◌++◌, Option}
use Rattle.json_value.proofs.Common.{None, Some, ◌<◌, length, inl, inr, slice_get, option_and_then, refl, sym, ap, ◌∙◌, arith}
use Rattle.json_value.proofs.Common.{true≢false, nat_tests, length-slice_split, onto_first, slice_split, option_eq, bytes_eq}
use Rattle.json_value.proofs.Common.{string_bytes, by_kind_in, is_named, child, descendant, index_of, member_place, name_of}
use Rattle.json_value.proofs.Common.{place, put_at, put_child, put_steps, value_at, is_plain, paths_differ, steps_differ, Part}
use Rattle.json_value.proofs.Common.{PathsPart, Value, out-Value}
use Rattle.std.proofs.Common.{String, Global}
use Rattle.std.proofs.lemmas.Slice.Eq.{bytes_eq-Decides}
use Rattle.halfbrown.proofs.lemmas.pairs.Indices.{IsFirst, first_of_index}
use Rattle.halfbrown.specs.Pairs.{index_of as first_index}
use Rattle.json_value.proofs.Placed.{put_at_other, put_other, put_same, put_steps_other}
use Rattle.json_value.proofs.Pointer.{index_of-decimal}
use Rattle.json_value.specs.declared.value.Value.TheOpen.{Value-F}

-- ---- what leads to one place has one name

named_first : (a b : List ℕ) (ks : List (String Global)) (i : ℕ) → IsFirst (is_named a) ks i → IsFirst (is_named b) ks i → a ≡ b
named_first a b [] i one two = absurd one
named_first a b (k ∷ ks) zero one two = (bytes_eq-Decides a (string_bytes k)).0 one ∙ sym ((bytes_eq-Decides b (string_bytes k)).0 two)
named_first a b (k ∷ ks) (suc i) one two = named_first a b ks i one.1 two.1

same_member : (o p : Option (List ℕ)) (ks : List (String Global)) (i : ℕ) → option_and_then (λ name. first_index (is_named name) ks) o ≡ Some i
    → option_and_then (λ name. first_index (is_named name) ks) p ≡ Some i → o ≡ p
same_member None p ks i one two = cc
same_member (Some a) None ks i one two = cc
same_member (Some a) (Some b) ks i one two =
    ap Some (named_first a b ks i (first_of_index (is_named a) ks i one) (first_of_index (is_named b) ks i two))

same_place : (v : Value-F Value) (step other : List ℕ) (i : ℕ)
    → by_kind_in (λ vs. index_of step) (λ m. member_place m.pairs step) None v ≡ Some i
    → by_kind_in (λ vs. index_of other) (λ m. member_place m.pairs other) None v ≡ Some i → name_of step ≡ name_of other
same_place (Value-F.List vs) step other i one two = ap name_of (sym (index_of-decimal step i one) ∙ index_of-decimal other i two)
same_place (Value-F.Object m) step other i one two = same_member (name_of step) (name_of other) _ i one two
same_place v step other i one two = cc

-- ---- so steps to different names part

led_by : {X Y : Type 0} (f : X → Option Y) (o : Option X) → option_and_then f o ≢ None → (x : X) × (o ≡ Some x)
led_by f None led = absurd (led refl)
led_by f (Some x) led = (x, refl)

option_eq-self : (o : Option (List ℕ)) → option_eq bytes_eq o o ≡ true
option_eq-self None = refl
option_eq-self (Some a) = (bytes_eq-Decides a a).1 refl

places_apart : (v : Value) (step other : List ℕ) → child v step ≢ None → option_eq bytes_eq (name_of step) (name_of other) ≡ false
    → place v step ≢ place v other
places_apart v step other led apart e =
    let at = led_by (slice_get _) (place v step) led in
    let named = same_place (out-Value v) step other at.0 at.1 (sym e ∙ at.1) in
    true≢false (sym (option_eq-self (name_of other)) ∙ ap (λ n. option_eq bytes_eq n (name_of other)) (sym named) ∙ apart)

module _ (v : Value) (step other : List ℕ) (steps others : List (List ℕ))
    (more : (x : Value) → descendant x steps ≢ None → steps_differ steps others ≡ true → Part x steps others) where
  part_here : (same : Bool) → bytes_eq step other ≡ same → (o : Option Value) → child v step ≡ o
      → option_and_then (λ w. descendant w steps) o ≢ None
      → cond same (steps_differ steps others) (not (option_eq bytes_eq (name_of step) (name_of other))) ≡ true
      → Part v (step ∷ steps) (other ∷ others)
  part_here same is None led there part = absurd (there refl)
  part_here true is (Some x) led there part = inr (ap (place v) ((bytes_eq-Decides step other).0 is), x, led, more x there part)
  part_here false is (Some x) led there part = inl (places_apart v step other (λ none. absurd (cc)) (grind (arith, nat_tests)))

part_by : (v : Value) (steps others : List (List ℕ)) → descendant v steps ≢ None → steps_differ steps others ≡ true → Part v steps others
part_by v (step ∷ steps) (other ∷ others) there part =
    part_here v step other steps others (λ x. part_by x steps others) (bytes_eq step other) refl (child v step) refl there part
part_by v steps others there part = absurd cc

paths_apart : (v : Value) (path other : List ℕ) → value_at v path ≢ None → paths_differ path other ≡ true → PathsPart v path other
paths_apart v (c ∷ path) (d ∷ other) there part =
    let slashes : (c ≡ 47) × (d ≡ 47) = grind (arith, nat_tests) in
    (slashes.0, slashes.1, part_by v _ _ (rw slashes.0 at there) (rw (slashes.0, slashes.1) at part))
paths_apart v path other there part = absurd cc

-- a path that leads to a value and another of different names part
pub parts : (v : Value) (path other : List ℕ) {had : Value} → value_at v path ≡ Some had → paths_differ path other ≡ true → PathsPart v path other
parts v path other there part = paths_apart v path other (λ none. absurd cc) part

-- once a value is put at a path, another of different names leads where it led
pub other_kept : (v : Value) (path other : List ℕ) (w : Value) → value_at v path ≢ None → paths_differ path other ≡ true
    → value_at (put_at v path w) other ≡ value_at v other
other_kept v path other w there part = put_at_other v path other w (paths_apart v path other there part)

-- the same of steps, and of one step: paths that are written out compute to these
pub steps_kept : (v : Value) (steps others : List (List ℕ)) (w : Value) → descendant v steps ≢ None → steps_differ steps others ≡ true
    → descendant (put_steps v steps w) others ≡ descendant v others
steps_kept v steps others w there part = put_steps_other v steps others w (part_by v steps others there part)

pub step_kept : (v : Value) (step other : List ℕ) (y : Value) → child v step ≢ None
    → option_eq bytes_eq (name_of step) (name_of other) ≡ false → child (put_child v step y) other ≡ child v other
step_kept v step other y there apart = put_other v step y other (places_apart v step other there apart)

-- ---- paths to names that are not written out

plain_step : (name : List ℕ) → is_plain name ≡ true → (slice_split (λ b. b == 47) name ≡ name ∷ []) × (name_of name ≡ Some name)
plain_step [] plain = (refl, refl)
plain_step (c ∷ name) plain = grind (arith, nat_tests, plain_step name)

-- two such names part
pub names_part : (a b : List ℕ) → is_plain a ≡ true → is_plain b ≡ true → a ≢ b
    → steps_differ (slice_split (λ b. b == 47) a) (slice_split (λ b. b == 47) b) ≡ true
names_part a b one two apart =
    let alone = plain_step a one in
    let other = plain_step b two in
    let differ : bytes_eq a b ≡ false = grind (arith, bytes_eq-Decides a b) in
    rw (alone.0, other.0, differ, alone.1, other.1, differ) refl

pushed-append : (slash : Bool) (c : ℕ) (parts more : List (List ℕ)) → 0 < length parts
    → cond slash ([] ∷ parts ++ more) (onto_first c (parts ++ more)) ≡ cond slash ([] ∷ parts) (onto_first c parts) ++ more
pushed-append true c parts more some = refl
pushed-append false c [] more some = absurd (omega arith)
pushed-append false c (part ∷ parts) more some = refl

split-append : (first path : List ℕ)
    → slice_split (λ b. b == 47) (first ++ 47 ∷ path) ≡ slice_split (λ b. b == 47) first ++ slice_split (λ b. b == 47) path
split-append [] path = refl
split-append (c ∷ first) path =
    let some : 0 < length (slice_split (λ b. b == 47) first) = omega (arith, length-slice_split (λ b. b == 47) first) in
    rw (split-append first path) (pushed-append (c == 47) c _ _ some)

steps_part-append : (first steps others : List (List ℕ)) → steps_differ (first ++ steps) (first ++ others) ≡ steps_differ steps others
steps_part-append [] steps others = refl
steps_part-append (step ∷ first) steps others = rw ((bytes_eq-Decides step step).1 refl) (steps_part-append first steps others)

-- behind a common first part two paths part as the rest of them does
pub first_part : (first path other : List ℕ)
    → steps_differ (slice_split (λ b. b == 47) (first ++ 47 ∷ path)) (slice_split (λ b. b == 47) (first ++ 47 ∷ other))
    ≡ steps_differ (slice_split (λ b. b == 47) path) (slice_split (λ b. b == 47) other)
first_part first path other =
    rw (split-append first path, split-append first other) (steps_part-append (slice_split (λ b. b == 47) first) _ _)

pub ruleset path_facts = (other_kept, steps_kept, step_kept, put_same, names_part, first_part)
