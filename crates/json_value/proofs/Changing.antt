-- Steps into a value, and what they lead to once another value is put there.
use Rattle.json_value.proofs.Common.{◌≡◌, ◌≢◌, ℕ, List, [], ◌∷◌, Option, None, Some, OnSome, slice_get, Vec, refl, sym, ap, ◌∙◌}
use Rattle.json_value.proofs.Common.{arith, rules, Bor, MatchOption, option_copied, option_map_or, children, descendant, place}
use Rattle.json_value.proofs.Common.{put_at, put_child, put_steps, steps_of, value_at, with_child, Value, the_lemmas}
use Rattle.std.proofs.Common.{Global}
use Rattle.std.specs.Vec.{with_item}
use Rattle.json_value.proofs.Pointer.{child-at, children-List, value_at-no_slash}
use Rattle.json_value.specs.declared.value.Value.TheViews.{List as list_of}

after_some : {X P Q : Type 0} (o : Option X) → (P → Q) → OnSome o P → OnSome o Q
after_some None f h = tt
after_some (Some x) f h = f h

with_child-List : (vs : Vec Value Global) (i : ℕ) (w : Value) → with_child (list_of vs) i w ≡ list_of (with_item vs i w)
with_child-List vs i w = search (rules, the_lemmas)

-- what was put behind the first step is put into an item
pub puts_item : (r : Option Value) (v : Value) (vs : Vec Value Global) → v ≡ list_of vs → (all : List (List ℕ)) (step : List ℕ)
    (rest : List (List ℕ)) → all ≡ step ∷ rest → (i : ℕ) → place v step ≡ Some i → (x : Value) → slice_get vs.items i ≡ Some x
    → (new w y : Value) → new ≡ list_of (with_item vs i y) → OnSome r (y ≡ put_steps x rest w) → OnSome r (new ≡ put_steps v all w)
puts_item r v vs is all step rest cut i at x found new w y put =
    let there = child-at v step i vs.items at (ap children is ∙ children-List vs) ∙ found in
    after_some r (λ e. put ∙ sym (with_child-List vs i y) ∙ sym (ap (λ u. with_child u i y) is)
    ∙ sym (ap (λ o. option_map_or (λ j. with_child v j y) o v) at) ∙ ap (put_child v step) e
    ∙ sym (ap (λ o. option_map_or (λ z. put_child v step (put_steps z rest w)) o v) there) ∙ sym (ap (λ steps. put_steps v steps w) cut))

-- a path that leads to a value leads there by the steps behind its first slash
pub path_steps : (v : Value) (path : List ℕ) (r : Option (Bor (List ℕ)))
    → MatchOption r ((rest : List ℕ) → path ≢ 47 ∷ rest) (λ x. path ≡ 47 ∷ x.now) → value_at v path ≢ None
    → (value_at v path ≡ descendant v (steps_of (option_copied r))) × ((w : Value) → put_at v path w ≡ put_steps v (steps_of (option_copied r)) w)
path_steps v [] None cut there = (refl, λ w. refl)
path_steps v [] (Some x) cut there = absurd (cc)
path_steps v (c ∷ path) None cut there = absurd (there (value_at-no_slash v (c ∷ path) (omega arith) cut))
path_steps v (c ∷ path) (Some x) cut there = (ap (value_at v) cut, λ w. ap (λ p. put_at v p w) cut)
