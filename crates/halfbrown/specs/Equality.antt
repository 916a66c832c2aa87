-- When two lists of pairs are equal as maps, the laws of that, and which keys are searched for to find out.
use Rattle.std.specs.Prelude.{◌≡◌, ◌==◌, Bool, true, false, List, [], ◌∷◌, length, IsTrue, if◌then◌else◌, Decides}
use Rattle.std.specs.Cmp.{IsEquivalence, IsPartialEquivalence, equiv, partial_equiv_from_equiv}
use Rattle.std.specs.HashMap.{hash_map_eq}
use Rattle.half_store.specs.HashMap.{HashMap, hash_map}
use Rattle.std.specs.HashMap.Eq.{get_from_hash_map_eq, hash_map_eq_from_get, hash_map_eq_refl, hash_map_eq_symm, hash_map_eq_trans}
use Rattle.std.specs.Option.{option_eq, option_map_or}
use Rattle.halfbrown.specs.Pairs.{value_of}
use Rattle.halfbrown.specs.State.{State}

-- std's map with these entries
abbrev as_map : {K V : Type 0} → List (K × V) → HashMap K V (Unit {0})
as_map pairs = hash_map pairs tt 0

module _ {K V : Type 0} (eq : K → K → Bool) (value_eq : V → V → Bool) where
  -- whether the key has equal values in both lists, or is held in neither
  abbrev pub same_lookup : List (K × V) → List (K × V) → K → Bool
  same_lookup left right k = option_eq value_eq (value_of eq left k) (value_of eq right k)

  -- whether both lists have the same keys with equal values, in any order: what `==` of std's `HashMap`s with these entries returns
  abbrev pub same_pairs : List (K × V) → List (K × V) → Bool
  same_pairs left right = hash_map_eq eq value_eq (as_map left) (as_map right)

  -- whether an equal key is held with an equal value
  abbrev pub holds_equal_pair : List (K × V) → K × V → Bool
  holds_equal_pair pairs p = option_map_or (value_eq p.1) (value_of eq pairs p.0) false

  -- the keys of the left pairs in order, up to and with the first pair that the right does not hold
  abbrev pub keys_while_same : List (K × V) → List (K × V) → List K
  keys_while_same [] right = []
  keys_while_same (p ∷ left) right = p.0 ∷ (if holds_equal_pair right p then keys_while_same left right else [])

  -- the keys that a comparison searches for in the right list, in order: none if the lengths differ
  abbrev pub searched_keys : List (K × V) → List (K × V) → List K
  searched_keys left right = if length left == length right then keys_while_same left right else []

module _ {K V : Type 0} (eq : K → K → Bool) (value_eq : V → V → Bool) (keys : IsEquivalence eq) where
  pub same_pairs-Decides : (left right : List (K × V)) → Decides (same_pairs eq value_eq left right) ((k : K) → same_lookup eq value_eq left right k ≡ true)
  same_pairs-Decides left right =
      (get_from_hash_map_eq eq value_eq keys (as_map left) (as_map right), hash_map_eq_from_get eq value_eq (as_map left) (as_map right))

  pub reflexive : ((v : V) → IsTrue (value_eq v v)) → (pairs : List (K × V)) → IsTrue (same_pairs eq value_eq pairs pairs)
  reflexive each pairs = hash_map_eq_refl eq value_eq each (as_map pairs)

  pub symmetric : IsPartialEquivalence value_eq → (left right : List (K × V)) → same_pairs eq value_eq left right ≡ same_pairs eq value_eq right left
  symmetric values left right = hash_map_eq_symm eq value_eq values.symm (as_map left) (as_map right)

  pub transitive : IsPartialEquivalence value_eq → (left middle right : List (K × V))
      → IsTrue (same_pairs eq value_eq left middle) → IsTrue (same_pairs eq value_eq middle right) → IsTrue (same_pairs eq value_eq left right)
  transitive values left middle right = hash_map_eq_trans eq value_eq keys values.trans (as_map left) (as_map middle) (as_map right)

  -- whether two maps hold the same pairs
  abbrev pub equal_maps : {S : Type 0} → State K V S → State K V S → Bool
  equal_maps a b = same_pairs eq value_eq a.pairs b.pairs

  pub equal_maps_per : {S : Type 0} → IsPartialEquivalence value_eq → IsPartialEquivalence (equal_maps {S = S})
  equal_maps_per values = record {
    symm = λ a b. symmetric values a.pairs b.pairs;
    trans = λ a b c. transitive values a.pairs b.pairs c.pairs;
  }

  pub equal_maps_equiv : {S : Type 0} → IsEquivalence value_eq → IsEquivalence (equal_maps {S = S})
  equal_maps_equiv values = equiv (equal_maps_per (partial_equiv_from_equiv values)) (λ a. reflexive values.refl a.pairs)
