-- When two lists of pairs of distinct keys are equal as maps: they are of one length, and the right holds each pair of the left.
use Rattle.halfbrown.proofs.Common.{◌≡◌, ℕ, ◌+◌, ◌≤◌, Bool, true, false, length, arith, List, [], ◌∷◌, get_or, slice_get, Option, Some, refl, ap, ◌∙◌, None}
use Rattle.halfbrown.proofs.Common.{is_some, sym, not, common_steps, length-keys_of, slice_get_within, get_or_from_slice_get, slice_get-get_or, Bor}
use Rattle.halfbrown.proofs.Common.{IsEquivalence, IsDistinct, AllByRecursion, keys_of, lookup, Work, holds_equal_pair, value_of, State}
use Rattle.std.proofs.Common.{drop}
use Rattle.std.specs.Bool.{Decides}
use Rattle.std.specs.HashMap.Eq.{lookup_congr}
use Rattle.std.specs.List.{list_all}
use Rattle.std.specs.Option.{option_copied, option_eq}
use Rattle.std.proofs.lemmas.List.Sums.{AllPass-from_list_all, list_all-from_AllPass}
use Rattle.std.proofs.lemmas.Map.Entries.{place_from_lookup, lookup_from_place}
use Rattle.std.proofs.lemmas.Map.Keys.{IsDistinct-cons}
use Rattle.std.proofs.lemmas.Map.Made.{is_some-lookup}
use Rattle.std.proofs.lemmas.Map.Steps.{length-le_from_keys}
use Rattle.halfbrown.specs.Equality.{same_lookup, same_pairs, keys_while_same, searched_keys, same_pairs-Decides}
use Rattle.std.proofs.Math.ListN.{drop_of_length-le}
use Rattle.std.proofs.Math.Seq.{drop-cons}
use Rattle.halfbrown.specs.Costs.{IsKeySearchCost, AreSearchCosts}

module _ {K V : Type 0} (eq : K → K → Bool) where
  -- no held key is equal to one that has no value
  apart_from_none : (k : K) (ps : List (K × V)) → lookup (eq k) ps ≡ None → AllByRecursion (λ q. eq k q ≡ false) (keys_of ps)
  apart_from_none k [] none = tt
  apart_from_none k (p ∷ ps) none = grind (arith, common_steps, apart_from_none k ps)

module _ {K V : Type 0} (eq : K → K → Bool) (value_eq : V → V → Bool) (laws : IsEquivalence eq) (left right : List (K × V)) where
  -- each key of one list has a value in the other, so it is at most as long
  length_most : (ps qs : List (K × V)) → IsDistinct eq (keys_of ps)
      → ((k : K) → is_some (value_of eq ps k) ≡ true → is_some (value_of eq qs k) ≡ true) → length ps ≤ length qs
  length_most ps qs distinct has = grind (arith, common_steps, is_some-lookup, length-keys_of, length-le_from_keys)

  -- an equal key has the same values
  equal_has_same : (k q : K) → eq k q ≡ true → same_lookup eq value_eq left right k ≡ same_lookup eq value_eq left right q
  equal_has_same k q same = λ i. option_eq value_eq (lookup_congr eq laws.congr left k q same i) (lookup_congr eq laws.congr right k q same i)

  module _ (left_distinct : IsDistinct eq (keys_of left)) where
    -- a pair of the left is held on the right exactly if its key has the same value in both
    held_by_value : (i : ℕ) (p : K × V) → slice_get left i ≡ Some p → same_lookup eq value_eq left right p.0 ≡ holds_equal_pair eq value_eq right p
    held_by_value i p at = grind (arith, common_steps, lookup_from_place laws left i p.0 p.1 left_distinct at)

    all_held : same_pairs eq value_eq left right ≡ true → list_all (holds_equal_pair eq value_eq right) left ≡ true
    all_held same =
        list_all-from_AllPass (holds_equal_pair eq value_eq right) left (λ i d within.
        sym (held_by_value i (get_or left i d) (slice_get-get_or left i d within))
        ∙ (same_pairs-Decides eq value_eq laws left right).0 same (get_or left i d).0)

    -- what is held on the left has the same value on the right
    same_of_held : list_all (holds_equal_pair eq value_eq right) left ≡ true → (k : K) (v : V) → value_of eq left k ≡ Some v
        → same_lookup eq value_eq left right k ≡ true
    same_of_held all k v found =
        let at = place_from_lookup (eq k) left v found in
        let p : K × V = (at.1, v) in
        equal_has_same k at.1 at.3 ∙ held_by_value at.0 p at.2
        ∙ ap (holds_equal_pair eq value_eq right) (sym (get_or_from_slice_get left at.0 p p at.2))
        ∙ AllPass-from_list_all (holds_equal_pair eq value_eq right) left all at.0 p (slice_get_within left at.0 p at.2)

    -- if the lengths agree, the right has no key besides those
    none_of_none : length left ≡ length right → list_all (holds_equal_pair eq value_eq right) left ≡ true → (k : K) → value_of eq left k ≡ None
        → (found : Option V) → value_of eq right k ≡ found → option_eq value_eq None found ≡ true
    none_of_none lengths all k none None is = refl
    none_of_none lengths all k none (Some w) is =
        let more : List (K × V) = (k, w) ∷ left in
        let distinct : IsDistinct eq (keys_of more) = IsDistinct-cons eq k (keys_of left) (apart_from_none eq k left none) left_distinct in
        let has : (q : K) → is_some (value_of eq more q) ≡ true → is_some (value_of eq right q) ≡ true
        = λ q some. grind (arith, common_steps, lookup_congr eq laws.congr right q k, same_of_held all q) in
        absurd (omega (arith, length_most more right distinct has, lengths))

    same_by : length left ≡ length right → list_all (holds_equal_pair eq value_eq right) left ≡ true → (k : K) (found : Option V)
        → value_of eq left k ≡ found → same_lookup eq value_eq left right k ≡ true
    same_by lengths all k found is = grind (arith, common_steps, none_of_none, same_of_held)

    module _ (right_distinct : IsDistinct eq (keys_of right)) where
      same_lengths : same_pairs eq value_eq left right ≡ true → length left ≡ length right
      same_lengths same =
          let each = (same_pairs-Decides eq value_eq laws left right).0 same in
          let least = length_most left right left_distinct (λ k some. grind (arith, common_steps, each k)) in
          let most = length_most right left right_distinct (λ k some. grind (arith, common_steps, each k)) in
          omega arith

      pub same_pairs-by_pairs :
          Decides (same_pairs eq value_eq left right) ((length left ≡ length right) × (list_all (holds_equal_pair eq value_eq right) left ≡ true))
      same_pairs-by_pairs = (
        λ same. (same_lengths same, all_held same),
        λ both. (same_pairs-Decides eq value_eq laws left right).1 (λ k. same_by both.0 both.1 k (value_of eq left k) refl),
      )

      pub unequal_lengths : (length left ≡ length right → ⊥) → false ≡ same_pairs eq value_eq left right
      unequal_lengths differ = grind (arith, common_steps, same_lengths)

      pub all_is_same : length left ≡ length right → list_all (holds_equal_pair eq value_eq right) left ≡ same_pairs eq value_eq left right
      all_is_same lengths = grind (arith, common_steps, same_pairs-by_pairs)

-- What searches for several keys, one after another, cost together.

-- the rest from an index on begins with the element there
rest_from : {X : Type 0} (xs : List X) (i : ℕ) (x : X) → slice_get xs i ≡ Some x → drop i xs ≡ x ∷ drop (i + 1) xs
rest_from xs i x at = grind (arith, common_steps, drop-cons xs i x, get_or_from_slice_get xs i x x at, slice_get_within xs i x at)

module _ {X : Type 0} (test : X → Bool) (xs : List X) (i : ℕ) (x : X) (at : slice_get xs i ≡ Some x) where
  -- the rest passes if its first element does and what follows does
  pub all_on : test x ≡ true → list_all test (drop i xs) ≡ list_all test (drop (i + 1) xs)
  all_on passes = grind (arith, common_steps, rest_from xs i x at)

  pub all_ends : test x ≡ false → list_all test (drop i xs) ≡ false
  all_ends fails = grind (arith, common_steps, rest_from xs i x at)

module _ {K V : Type 0} (eq : K → K → Bool) (value_eq : V → V → Bool) (ps : List (K × V)) (k : K) (v : Bor V) where
  -- a pair is held unless its value differs from what a search for its key found
  pub held_unless : (found : Option (Bor V)) (differs : Bool) → option_copied found ≡ value_of eq ps k
      → differs ≡ not (option_eq (λ x y. value_eq x.now y.now) (Some v) found) → holds_equal_pair eq value_eq ps (k, v.now) ≡ not differs
  held_unless found differs is compared = grind (arith, common_steps)

module _ {K V S : Type 0} (eq : K → K → Bool) (hash : S → K → ℕ) (m : State K V S) where
  pub costs_none : (work : Work) → AreSearchCosts eq hash m [] work work
  unfolding AreSearchCosts
  costs_none work = refl

  -- the searches for the rest of the left pairs, from an index on
  module _ (value_eq : V → V → Bool) (left : List (K × V)) (i : ℕ) where
    -- none is left
    pub costs_done : length left ≤ i → (work : Work) → AreSearchCosts eq hash m (keys_while_same eq value_eq (drop i left) m.pairs) work work
    unfolding AreSearchCosts
    costs_done past work = grind (arith, common_steps, drop_of_length-le left past)

    module _ (p : K × V) (at : slice_get left i ≡ Some p) (before between : Work) (first : IsKeySearchCost eq hash m p.0 before between)
      where
        -- if the first pair is held, the others follow
        pub costs_on : holds_equal_pair eq value_eq m.pairs p ≡ true → (after : Work)
            → AreSearchCosts eq hash m (keys_while_same eq value_eq (drop (i + 1) left) m.pairs) between after
            → AreSearchCosts eq hash m (keys_while_same eq value_eq (drop i left) m.pairs) before after
        unfolding AreSearchCosts
        costs_on held after more = grind (arith, common_steps, rest_from left i p at)

        -- if it is not, its search is the last
        pub costs_last : holds_equal_pair eq value_eq m.pairs p ≡ false
            → AreSearchCosts eq hash m (keys_while_same eq value_eq (drop i left) m.pairs) before between
        unfolding AreSearchCosts
        costs_last unheld = grind (arith, common_steps, rest_from left i p at)

module _ {K V : Type 0} (eq : K → K → Bool) (value_eq : V → V → Bool) where
  pub none_searched : (left right : List (K × V)) → (length left ≡ length right → ⊥) → [] ≡ searched_keys eq value_eq left right
  none_searched left right differ = grind (arith, common_steps)

  pub all_searched : (left right : List (K × V)) → length left ≡ length right
      → keys_while_same eq value_eq left right ≡ searched_keys eq value_eq left right
  all_searched left right same = grind (arith, common_steps)
