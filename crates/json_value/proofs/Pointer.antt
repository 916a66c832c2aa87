-- A path, a step at a time.
use Rattle.json_value.proofs.Common.{◌≡◌, ◌≢◌, ℕ, suc, ◌^◌, ◌<◌, ◌≤◌, true, false, List, [], ◌∷◌, ◌++◌, length, get_or, Option}
use Rattle.json_value.proofs.Common.{None, Some, option_and_then, Result, Ok, Err, refl, sym, ap, ◌∙◌, arith, true≢false}
use Rattle.json_value.proofs.Common.{eq-eqb, eqb-true, ne_eqb, slice_index, slice_get, ◌==◌, Vec, rules, nat_tests}
use Rattle.json_value.proofs.Common.{get_or_default, slice_split_at, slice_split_none, slice_get-map, Bor, All, slice_split}
use Rattle.json_value.proofs.Common.{values_of, deref_pair, result_ok, all_ascii_digits, name_of, name_after_tilde}
use Rattle.json_value.proofs.Common.{child, children, descendant, place, value_at, Value, the_lemmas}
use Rattle.std.proofs.Common.{option_map, Global}
use Rattle.std.specs.Fmt.{decimal}
use Rattle.std.proofs.lemmas.Fmt.{decimal-digits_value}
use Rattle.std.proofs.lemmas.Str.Parse.{IsNumeralModel, numerals_by_value, tells_all_ascii_digits, parse_plain}
use Rattle.std.specs.Iterator.{AlwaysYields}
use Rattle.std.specs.Str.Iter.{split_steps}
use Rattle.std.specs.Str.Parse.{digits_value, ParsesUnsigned}
use Rattle.std.specs.Str.Pattern.{FindsChar}
use Rattle.std.specs.declared.str.Split.{Split}
use Rattle.std.specs.declared.string.String.{String}
use Rattle.json_value.proofs.Writing.{Members}
use Rattle.json_value.specs.Pointer.{index_of}
use Rattle.json_value.specs.declared.value.Value.TheViews.{List as list_of, Object as object_of}

-- ---- names

-- a step with no ~ stands for itself
pub name_of-plain : (step : List ℕ) → ((i : ℕ) → i < length step → get_or step i 0 ≢ 126) → name_of step ≡ Some step
name_of-plain [] lacks = refl
name_of-plain (c ∷ step) lacks =
    rw (ne_eqb c 126 (lacks 0 (omega arith)))
    (ap (option_map (λ name. c ∷ name)) (name_of-plain step (λ i less. lacks (suc i) (omega arith))))

option_map-not_empty : (c : ℕ) (o : Option (List ℕ)) → option_map (λ name. c ∷ name) o ≢ Some []
option_map-not_empty c None e = cc
option_map-not_empty c (Some name) e = cc

name_after_tilde-not_empty : (step : List ℕ) → name_after_tilde step ≢ Some []
name_after_tilde-not_empty [] e = cc
name_after_tilde-not_empty (c ∷ step) e = grind (arith, option_map-not_empty 126 (name_of step), option_map-not_empty 47 (name_of step))

-- only the empty step stands for the empty name
pub name_of-empty : (step : List ℕ) → name_of step ≡ Some [] → step ≡ []
name_of-empty [] e = refl
name_of-empty (c ∷ step) e = grind (arith, option_map-not_empty c (name_of step), name_after_tilde-not_empty step)

-- ---- indices: 43 is `+`, and 48 is `0`

own : IsNumeralModel (λ ds. all_ascii_digits ds ≡ true) (digits_value 10)
own = numerals_by_value _ tells_all_ascii_digits

pub index_of-plus : (step : List ℕ) → (slice_index step 0 == 43) ≡ true → index_of step ≡ None
unfolding index_of
index_of-plus [] plus = refl
index_of-plus (c ∷ step) plus = rw (eqb-true c 43 plus) refl

pub index_of-zero : (step : List ℕ) → (slice_index step 0 == 48) ≡ true → 1 < length step → index_of step ≡ None
unfolding index_of
index_of-zero [] zero long = refl
index_of-zero (c ∷ step) zero long = rw (eqb-true c 48 zero, ne_eqb (length step) 0 (λ e. omega arith)) refl

module _ {E : Type 0} where
  -- what is parsed is the index, if no plus and no zero stands before it
  pub index_of-parsed : (step : List ℕ) (r : Result ℕ E) → ParsesUnsigned {E = E} 64 10 step r → (slice_index step 0 == 43) ≡ false
      → ((slice_index step 0 == 48) ≡ true → length step ≤ 1) → result_ok r ≡ index_of step
  unfolding index_of
  index_of-parsed [] (Ok x) parsed plain alone = absurd (omega (arith, parsed.0.0))
  index_of-parsed [] (Err e) parsed plain alone = refl
  index_of-parsed (c ∷ step) r parsed plain alone =
      let signless = λ (e : c ≡ 43). true≢false (sym (eq-eqb c 43 e) ∙ plain) in
      grind (arith, nat_tests, parse_plain own {E = E} 64 (c ∷ step) r parsed signless)

-- an index has one step that writes it
pub index_of-decimal : (step : List ℕ) (i : ℕ) → index_of step ≡ Some i → decimal i ≡ step
unfolding index_of
index_of-decimal [] i e = absurd cc
index_of-decimal (c ∷ step) i e =
    let tests : (all_ascii_digits (c ∷ step) ≡ true) × ((c ≡ 48 → length step ≡ 0) × (digits_value 10 (c ∷ step) < 2 ^ 64)) =
    grind (arith, nat_tests) in
    let value : digits_value 10 (c ∷ step) ≡ i = grind (arith, nat_tests) in
    ap decimal (sym value) ∙ decimal-digits_value own (c ∷ step) tests.0 (omega arith) (λ zero. omega (arith, tests.1.0 zero)) tests.1.1

-- ---- steps

pub children-List : (vs : Vec Value Global) → children (list_of vs) ≡ vs.items
children-List vs = search (rules, the_lemmas)

-- a step that leads to a place leads to the value there
pub child-at : (v : Value) (step : List ℕ) (i : ℕ) (vs : List Value) → place v step ≡ Some i → children v ≡ vs
    → child v step ≡ slice_get vs i
child-at v step i vs at is = ap (option_and_then (slice_get (children v))) at ∙ ap (λ l. slice_get l i) is

-- the value of the member at the place
pub child-member : (v : Value) (m : Members) (step : List ℕ) (i : ℕ) (o : Option (Bor (String Global) × Bor Value)) → v ≡ object_of m
    → place v step ≡ Some i → option_map deref_pair o ≡ slice_get m.pairs i → child v step ≡ option_map (λ p. p.1) (option_map deref_pair o)
child-member v m step i o is at found =
    let values : children (object_of m) ≡ values_of m.pairs = search (rules, the_lemmas) in
    child-at v step i (values_of m.pairs) at (ap children is ∙ values) ∙ slice_get-map (λ p. p.1) m.pairs i
    ∙ ap (option_map (λ p. p.1)) (sym found)

-- no path begins with anything but a slash
pub value_at-no_slash : (v : Value) (path : List ℕ) → 0 < length path → ((rest : List ℕ) → path ≢ 47 ∷ rest) → value_at v path ≡ None
value_at-no_slash v [] some other = absurd (omega arith)
value_at-no_slash v (c ∷ path) some other = rw (ne_eqb c 47 (λ e. other path (ap (λ d. d ∷ path) e))) refl

abbrev pub split_at_slashes : Split ℕ → Option (Bor (List ℕ)) → Split ℕ → Type 0
split_at_slashes = split_steps FindsChar (λ a b. b ≡ a)

-- the steps that are left
abbrev pub StepsLeft : Split ℕ → List (List ℕ) → Type 0
StepsLeft s steps = AlwaysYields split_at_slashes (λ step. step.now) s steps

-- a step is taken, and then these are left
pub descendant-step : (v : Value) (steps : List (List ℕ)) (s t : Split ℕ) (x : Bor (List ℕ))
    → StepsLeft s steps → split_at_slashes s (Some x) t
    → (more : List (List ℕ)) × StepsLeft t more × (descendant v steps ≡ option_and_then (λ w. descendant w more) (child v x.now))
descendant-step v [] s t x left taken = absurd (left x t taken)
descendant-step v (step ∷ more) s t x left taken =
    let both = left.1 x t taken in (more, both.1, ap (λ y. option_and_then (λ w. descendant w more) (child v y)) (sym both.0))

-- none is left
pub descendant-end : (v : Value) (steps : List (List ℕ)) (s t : Split ℕ) → StepsLeft s steps → split_at_slashes s None t
    → descendant v steps ≡ Some v
descendant-end v [] s t left ended = refl
descendant-end v (step ∷ more) s t left ended = absurd (left.0 t ended)

-- the first of some steps, and the others behind a slash
has_no_slash : (step : List ℕ) → ((i : ℕ) → i < length step → get_or step i 0 ≢ 47) → All (λ b. (b == 47) ≡ false) step
has_no_slash step free k d less = ne_eqb _ 47 (λ e. free k less (get_or_default step k 0 d less ∙ e))

module _ (steps : List ℕ) where
  pub steps-more : (step rest : List ℕ) → steps ≡ step ++ 47 ∷ rest → ((i : ℕ) → i < length step → get_or step i 0 ≢ 47)
      → slice_split (λ b. b == 47) steps ≡ step ∷ slice_split (λ b. b == 47) rest
  steps-more step rest cut free =
      ap (slice_split (λ b. b == 47)) cut ∙ slice_split_at (λ b. b == 47) step 47 rest (has_no_slash step free) refl

  pub steps-last : ((i : ℕ) → i < length steps → get_or steps i 0 ≢ 47) → slice_split (λ b. b == 47) steps ≡ steps ∷ []
  steps-last free = slice_split_none (λ b. b == 47) steps (has_no_slash steps free)
