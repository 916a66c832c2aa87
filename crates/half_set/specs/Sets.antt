-- What becomes of the values of a set, and when two sets are equal.
use Rattle.std.specs.Prelude.{◌≡◌, Bool, true, false, not, List, map, filter, refl, if◌then◌else◌}
use Rattle.std.specs.Cmp.{IsEquivalence, equiv}
use Rattle.std.specs.Cmp.Derive.{point_per}
use Rattle.std.specs.List.{list_any}
use Rattle.std.specs.Option.{option_map_or}
use Rattle.std.specs.Set.{is_member}
use Rattle.halfbrown.specs.Equality.{same_pairs, reflexive, symmetric, transitive}
use Rattle.halfbrown.specs.Pairs.{index_of, swap_remove_at}

-- each value with nothing, as a set has it
abbrev pub with_nothing : {T : Type 0} → List T → List (T × Unit {0})
with_nothing xs = map (λ x. (x, tt)) xs

-- if a value passes the test, it is gone and the last value takes its index; otherwise the same values
abbrev pub take_out_value : {T : Type 0} → (T → Bool) → List T → List T
take_out_value test xs = option_map_or (swap_remove_at xs) (index_of test xs) xs

module _ {T : Type 0} (eq : T → T → Bool) where
  -- the values that are members of others, or those that are not
  abbrev pub selected : Bool → List T → List T → List T
  selected members others xs = filter (λ x. if members then is_member eq others x else not (is_member eq others x)) xs

  -- after the value that passes the test is removed: whether there was one; none passes now; each other value is a member as
  -- before
  pub record RemovesValue (test : T → Bool) (old : List T) (removed : Bool) (new : List T) : Type 0 where
    pub was_member : removed ≡ list_any test old
    pub gone : list_any test new ≡ false
    pub others : (x : T) → test x ≡ false → is_member eq new x ≡ is_member eq old x

  -- whether each value is in both lists or in neither
  abbrev pub same_values : List T → List T → Bool
  same_values xs ys = same_pairs eq (λ x y. true) (with_nothing xs) (with_nothing ys)

  pub same_values_equiv : IsEquivalence eq → IsEquivalence same_values
  same_values_equiv laws = equiv
      (record {
        symm = λ xs ys. symmetric eq _ laws point_per (with_nothing xs) (with_nothing ys);
        trans = λ xs ys zs. transitive eq _ laws point_per (with_nothing xs) (with_nothing ys) (with_nothing zs);
      })
      (λ xs. reflexive eq _ laws (λ x. refl) (with_nothing xs))
