-- What decides whether two maps are equal, and what follows of the cost of a comparison.
use Rattle.std.specs.Prelude.{◌≡◌, ◌≢◌, ℕ, ◌+◌, ◌*◌, ◌≤◌, Bool, true, List, length, IsTrue, IsPermutation, ◌↔◌}
use Rattle.std.specs.List.{IsDistinct, list_all}
use Rattle.std.specs.Map.{keys_of}
use Rattle.half_store.specs.Work.{Work}
use Rattle.halfbrown.specs.Costs.{search_asked, AreSearchCosts}
use Rattle.halfbrown.specs.Equality.{same_pairs, same_lookup, holds_equal_pair, searched_keys}
use Rattle.halfbrown.specs.State.{State}

module _ {K V : Type 0} (eq : K → K → Bool) (value_eq : V → V → Bool) where
  -- a list is equal to itself, if each value is
  abbrev pub ReflexiveLaw : Type 0
  ReflexiveLaw = ((v : V) → IsTrue (value_eq v v)) → (pairs : List (K × V)) → IsTrue (same_pairs eq value_eq pairs pairs)

  -- the sides do not matter
  abbrev pub SymmetricLaw : Type 0
  SymmetricLaw = (left right : List (K × V)) → same_pairs eq value_eq left right ≡ same_pairs eq value_eq right left

  -- two lists that are equal to a third are equal
  abbrev pub TransitiveLaw : Type 0
  TransitiveLaw = (left middle right : List (K × V)) → IsTrue (same_pairs eq value_eq left middle)
      → IsTrue (same_pairs eq value_eq middle right) → IsTrue (same_pairs eq value_eq left right)

  -- two lists are equal exactly if each key has equal values in both
  abbrev pub ValuesLaw : Type 0
  ValuesLaw = (left right : List (K × V)) → IsTrue (same_pairs eq value_eq left right) ↔ ((k : K) → IsTrue (same_lookup eq value_eq left right k))

  -- two lists of distinct keys are equal exactly if their lengths agree and the right holds each pair of the left
  abbrev pub PairsLaw : Type 0
  PairsLaw = (left right : List (K × V)) → IsDistinct eq (keys_of left) → IsDistinct eq (keys_of right)
      → IsTrue (same_pairs eq value_eq left right) ↔ ((length left ≡ length right) × IsTrue (list_all (holds_equal_pair eq value_eq right) left))

  -- the order of pairs of distinct keys does not matter
  abbrev pub OrderLaw : Type 0
  OrderLaw = (pairs reordered other : List (K × V)) → IsDistinct eq (keys_of pairs) → IsPermutation pairs reordered → same_pairs eq value_eq reordered other ≡ same_pairs eq value_eq pairs other

module _ {K V S : Type 0} (eq : K → K → Bool) (value_eq : V → V → Bool) where
  -- the cost in numbers of the searches in a map for the keys of the left pairs. It is nothing if the lengths differ. Otherwise
  -- each search hashes once in a table, and never in a vector. All together take no more hashes, comparisons and buckets than
  -- this
  pub record ComparisonCosts (left : List (K × V)) (m : State K V S) (before after : Work) : Type 0 where
    pub lengths_differ : length left ≢ length m.pairs → after ≡ before
    pub asked : after.asked ≡ before.asked + search_asked m.is_vec * length (searched_keys eq value_eq left m.pairs)
    pub asked_in_a_vector : m.is_vec ≡ true → after.asked ≡ before.asked
    pub asked_at_most : after.asked ≤ before.asked + length left
    pub asked_where_same : IsDistinct eq (keys_of left) → IsDistinct eq (keys_of m.pairs) → IsTrue (same_pairs eq value_eq left m.pairs)
        → after.asked ≡ before.asked + search_asked m.is_vec * length left
    pub compared_at_most : after.compared ≤ before.compared + length left * length m.pairs
    pub looked_in_a_vector : m.is_vec ≡ true → after.looked ≡ before.looked
    pub looked_at_most : after.looked ≤ before.looked + length left * (length m.pairs + 1)

  -- a comparison that made these searches cost so much
  abbrev pub ComparisonLaw : (S → K → ℕ) → Type 0
  ComparisonLaw hash = (left : List (K × V)) (m : State K V S) (before after : Work)
      → AreSearchCosts eq hash m (searched_keys eq value_eq left m.pairs) before after → ComparisonCosts left m before after
