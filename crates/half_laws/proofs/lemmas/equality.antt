-- What decides the equality of maps, and what the searches of a comparison cost together.
use Rattle.half_laws.proofs.Common.{◌≡◌, ℕ, ◌≤◌, Bool, true, List, [], ◌∷◌, length, is_some, refl, sym, ap, ◌∙◌, arith, ◌+◌}
use Rattle.half_laws.proofs.Common.{◌*◌, subst, common_steps, IsEquivalence, IsDistinct, keys_of, count_by-le-length}
use Rattle.half_laws.proofs.Common.{length-keys_of, holds_equal_pair, value_of, lookup_permuted, Work, search_asked}
use Rattle.half_laws.proofs.Common.{IsKeySearchCost, State}
use Rattle.std.specs.Bool.{one_answer}
use Rattle.std.specs.List.{list_all}
use Rattle.std.specs.Option.{option_eq}
use Rattle.halfbrown.specs.Equality.{same_pairs, keys_while_same, searched_keys, same_pairs-Decides}
use Rattle.half_laws.specs.ComparisonLaws.{OrderLaw, PairsLaw, ComparisonLaw}
use Rattle.halfbrown.proofs.lemmas.map.Equality.{same_pairs-by_pairs, all_searched, none_searched}
use Rattle.std.proofs.Math.Nat.{mul-le-mul_left}
use Rattle.halfbrown.specs.Costs.{AreSearchCosts}

module _ {K V : Type 0} (eq : K → K → Bool) (value_eq : V → V → Bool) (laws : IsEquivalence eq) where
  pub pairs_law : PairsLaw eq value_eq
  pairs_law = same_pairs-by_pairs eq value_eq laws

  pub order_law : OrderLaw eq value_eq
  order_law pairs reordered other distinct permuted =
      let same = λ (k : K). ap (λ v. option_eq value_eq v (value_of eq other k))
      (lookup_permuted eq laws pairs reordered distinct permuted k) in
      one_answer (same_pairs eq value_eq reordered other) (same_pairs eq value_eq pairs other)
      (same_pairs-Decides eq value_eq laws reordered other) (
        λ as_pairs k. same k ∙ (same_pairs-Decides eq value_eq laws pairs other).0 as_pairs k,
        λ each. (same_pairs-Decides eq value_eq laws pairs other).1 (λ k. sym (same k) ∙ each k),
      )

module _ {K V S : Type 0} (eq : K → K → Bool) (hash : S → K → ℕ) (m : State K V S) where
  none_cost : (before after : Work) → AreSearchCosts eq hash m [] before after → after ≡ before
  unfolding AreSearchCosts
  none_cost before after costs = costs

  one_compares : (k : K) (before after : Work) → IsKeySearchCost eq hash m k before after → after.compared ≤ before.compared + length m.pairs
  one_compares k before after costs = grind (arith, common_steps, count_by-le-length, is_some, length-keys_of)

  one_looks : (k : K) (before after : Work) → IsKeySearchCost eq hash m k before after → after.looked ≤ before.looked + (length m.pairs + 1)
  one_looks k before after costs = grind (arith, common_steps)

  -- what searches cost one after another; in a vector no bucket is read
  together : (ks : List K) (before after : Work) → AreSearchCosts eq hash m ks before after
      → (after.asked ≡ before.asked + search_asked m.is_vec * length ks)
      × (after.compared ≤ before.compared + length ks * length m.pairs)
      × (after.looked ≤ before.looked + length ks * (length m.pairs + 1))
      × (m.is_vec ≡ true → after.looked ≡ before.looked)
  unfolding AreSearchCosts
  together [] before after costs = rw costs (omega arith, omega arith, omega arith, λ vector. refl)
  together (k ∷ ks) before after costs =
      let rest = together ks costs.0 after costs.2 in
      let looked = costs.1.grew.looked in (
        omega (arith, costs.1.grew.asked, rest.0),
        omega (arith, one_compares k before costs.0 costs.1, rest.1),
        omega (arith, one_looks k before costs.0 costs.1, rest.2),
        λ vector. let later = rest.3 vector in grind (arith, common_steps),
      )

module _ {K V : Type 0} (eq : K → K → Bool) (value_eq : V → V → Bool) where
  -- at most one search for each left pair
  length_searched : (left right : List (K × V)) → length (keys_while_same eq value_eq left right) ≤ length left
  length_searched [] right = omega arith
  length_searched (p ∷ left) right = grind (arith, common_steps, length_searched left right)

  searched_most : (left right : List (K × V)) → length (searched_keys eq value_eq left right) ≤ length left
  searched_most left right = grind (arith, common_steps, length_searched)

  -- one for each, if all are held
  length_all : (left right : List (K × V)) → list_all (holds_equal_pair eq value_eq right) left ≡ true
      → length (keys_while_same eq value_eq left right) ≡ length left
  length_all [] right all = refl
  length_all (p ∷ left) right all = grind (arith, common_steps, length_all left right)

-- ---- what a comparison of two maps costs

module _ {K V S : Type 0} (eq : K → K → Bool) (value_eq : V → V → Bool) (laws : IsEquivalence eq) (hash : S → K → ℕ) where
  module _ (left : List (K × V)) (m : State K V S) where
    all_are_searched : IsDistinct eq (keys_of left) → IsDistinct eq (keys_of m.pairs) → same_pairs eq value_eq left m.pairs ≡ true
        → length (searched_keys eq value_eq left m.pairs) ≡ length left
    all_are_searched left_distinct right_distinct same = grind (arith, common_steps, all_searched, length_all, same_pairs-by_pairs)

  pub comparison_law : ComparisonLaw eq value_eq hash
  comparison_law left m before after costs =
      let searched = searched_keys eq value_eq left m.pairs in
      let most = searched_most eq value_eq left m.pairs in
      let costly = together eq hash m searched before after costs in
      let asked = costly.0 in
      record {
        lengths_differ = λ differ. none_cost eq hash m before after
            (subst (λ ks. AreSearchCosts eq hash m ks before after) (sym (none_searched eq value_eq left m.pairs differ)) costs);
        asked = asked;
        asked_in_a_vector = λ vector. grind (arith, common_steps);
        asked_at_most = grind (arith, common_steps);
        asked_where_same = λ left_distinct right_distinct same.
            asked ∙ ap (λ n. before.asked + search_asked m.is_vec * n) (all_are_searched left m left_distinct right_distinct same);
        compared_at_most = omega (arith, costly.1, mul-le-mul_left (length m.pairs) most);
        looked_in_a_vector = costly.3;
        looked_at_most = omega (arith, costly.2, mul-le-mul_left (length m.pairs + 1) most);
      }
