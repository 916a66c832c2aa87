-- What contracts see of two columns, one of keys and one of values.
use Rattle.std.specs.Prelude.{◌≡◌, ℕ, List, [], length, vec_capacity}
use Rattle.std.specs.List.{zip}
use Rattle.std.specs.declared.vec.Vec.{Vec}
use base.Stored.{Coded, coded×, coded_list, coded_ℕ, coded_via}

-- the pairs in order, and for how many pairs each column has memory
pub record ColumnsState (K V : Type 0) : Type 0 where
  pub pairs : List (K × V)
  pub capacity : ℕ

-- what two columns are
abbrev pub columns_of : {K V Z : Type 0} → Vec K Z → Vec V Z → ColumnsState K V
columns_of keys values = record { pairs = zip keys.items values.items; capacity = vec_capacity keys }

-- the two columns are of one length and one capacity
pub record AreEven {K V Z : Type 0} (keys : Vec K Z) (values : Vec V Z) : Type 0 where
  pub length : length values.items ≡ length keys.items
  pub capacity : vec_capacity values ≡ vec_capacity keys

module _ {K V : Type 0} where
  -- no pairs, and no memory
  abbrev pub no_pairs : ColumnsState K V
  no_pairs = record { pairs = []; capacity = 0 }

  -- these pairs, with the capacity of other columns
  abbrev pub columns_with : ColumnsState K V → List (K × V) → ColumnsState K V
  columns_with old ps = record { pairs = ps; capacity = old.capacity }

  abbrev pub columns_code : Coded K → Coded V → Coded (ColumnsState K V)
  columns_code k v =
      coded_via (coded× (coded_list (coded× k v)) coded_ℕ) (λ c. (c.pairs, c.capacity)) (λ a b e i. record { pairs = (e i).0; capacity = (e i).1 })
