-- What steps lead to once another value is put somewhere.
use Rattle.json_value.proofs.Common.{◌≡◌, ◌≢◌, inl, inr, ◌==◌, ℕ, zero, suc, List, [], ◌∷◌, Some, option_and_then, slice_get}
use Rattle.json_value.proofs.Common.{slice_set, refl, ap, ◌∙◌, arith, common_steps, gets, slice_split, values_of, set_value_at}
use Rattle.json_value.proofs.Common.{is_named, child, children, descendant, member_place, name_of, place, put_at, put_child}
use Rattle.json_value.proofs.Common.{put_steps, Part, PathsPart, value_at, with_child, Value, the_lemmas}
use Rattle.std.specs.declared.alloc.Global.{Global}
use Rattle.std.specs.declared.string.String.{String}
use Rattle.halfbrown.proofs.lemmas.map.Layout.{keys_of-set_value_at}
use Rattle.halfbrown.specs.Pairs.{index_of as first_index}

get-set : {X : Type 0} (xs : List X) (i : ℕ) (x y : X) → slice_get xs i ≡ Some x → slice_get (slice_set xs i y) i ≡ Some y
get-set xs i x y at = grind (arith, common_steps, gets)

values_set : {K V : Type 0} (ps : List (K × V)) (i : ℕ) (w : V) → values_of (set_value_at ps i w) ≡ slice_set (values_of ps) i w
values_set [] i w = refl
values_set (p ∷ ps) zero w = refl
values_set (p ∷ ps) (suc i) w = ap (λ vs. p.1 ∷ vs) (values_set ps i w)

get-other : {X : Type 0} (xs : List X) (i j : ℕ) (y : X) → j ≢ i → slice_get (slice_set xs i y) j ≡ slice_get xs j
get-other xs i j y apart = grind (arith, common_steps, gets)

place_kept : (ps : List (String Global × Value)) (i : ℕ) (y : Value) (step : List ℕ) → member_place (set_value_at ps i y) step ≡ member_place ps step
place_kept ps i y step = ap (λ ks. option_and_then (λ name. first_index (is_named name) ks) (name_of step)) (keys_of-set_value_at ps i y)

module _ (v : Value) (i : ℕ) (y : Value) where
  children_put : children (with_child v i y) ≡ slice_set (children v) i y
  children_put = grind (arith, the_lemmas, values_set)

  place_put : (step : List ℕ) → place (with_child v i y) step ≡ place v step
  place_put step = grind (arith, the_lemmas, place_kept)

  child_put : (step : List ℕ) → child (with_child v i y) step ≡ option_and_then (slice_get (slice_set (children v) i y)) (place v step)
  child_put step =
      ap (λ vs. option_and_then (slice_get vs) (place (with_child v i y) step)) children_put
      ∙ ap (option_and_then (slice_get (slice_set (children v) i y))) (place_put step)

module _ (v : Value) (step : List ℕ) (y : Value) where
  -- if the step and another lead to the same place, both lead to what was put
  pub put_same : (x : Value) (other : List ℕ) → place v step ≡ place v other → child v step ≡ Some x → child (put_child v step y) other ≡ Some y
  put_same x other same some = grind (arith, child_put, get-set)

  -- a step to another place leads where it led
  pub put_other : (other : List ℕ) → place v step ≢ place v other → child (put_child v step y) other ≡ child v other
  put_other other apart = grind (arith, child_put, get-other)

-- what is put is there
put_there : (v : Value) (steps : List (List ℕ)) (b w : Value) → descendant v steps ≡ Some b
    → descendant (put_steps v steps w) steps ≡ Some w
put_there v [] b w there = refl
put_there v (step ∷ steps) b w there =
    let more : (x : Value) → descendant x steps ≡ Some b → descendant (put_steps x steps w) steps ≡ Some w = λ x. put_there x steps b w in
    grind (arith, put_same, more)

-- what is put at a path is there
pub put_at_there : (v : Value) (path : List ℕ) (b w : Value) → value_at v path ≡ Some b → value_at (put_at v path w) path ≡ Some w
put_at_there v [] b w there = refl
put_at_there v (c ∷ path) b w there = grind (arith, put_there)

-- other steps lead where they led
pub put_steps_other : (v : Value) (steps others : List (List ℕ)) (w : Value) → Part v steps others
    → descendant (put_steps v steps w) others ≡ descendant v others
put_steps_other v (step ∷ steps) (other ∷ others) w (inl apart) = grind (arith, put_other)
put_steps_other v (step ∷ steps) (other ∷ others) w (inr same) =
    grind (arith, put_same, put_steps_other same.1 steps others w same.3)
put_steps_other v steps others w part = absurd part

-- what is put at a path leaves what other paths lead to
pub put_at_other : (v : Value) (path other : List ℕ) (w : Value) → PathsPart v path other → value_at (put_at v path w) other ≡ value_at v other
put_at_other v (c ∷ path) (d ∷ other) w part =
    rw (part.0, part.1) (put_steps_other v (slice_split (λ b. b == 47) path) (slice_split (λ b. b == 47) other) w part.2)
put_at_other v path other w part = absurd part
