-- What the two columns of a `Columns` are to its list of pairs.
use Rattle.half_store.proofs.Common.{◌≡◌, length, ◌∙◌, arith, ℕ, ◌<◌, sym, ap, List, Some, get_or, common_steps, slice_get, zip, ColumnsState, set_values}
use Rattle.std.proofs.lemmas.Map.Made.{keys_of-zip}
use Rattle.std.proofs.lemmas.Slice.Zip.{seconds-zip}
use Rattle.std.specs.List.{refill}
use Rattle.std.specs.declared.vec.Vec.{Vec}
use Rattle.std.specs.Map.{keys_of, values_of}
use Rattle.half_store.proofs.lemmas.vecmap.Zip.{length-zip_even, zip-refill, slice_get-zip, zip_push, zip-swap_remove_at, zip-set_key, zip-set_value, slice_get_at}
use Rattle.half_store.specs.Columns.{AreEven, columns_with}

module _ {K V Z : Type 0} where
  -- what a map sees of its columns
  abbrev pub seen : Vec K Z → Vec V Z → ColumnsState K V
  seen keys values = record { pairs = zip keys.items values.items; capacity = keys.cap }

  -- what is known of the columns of a map whose pairs and capacity are these
  pub record Opened (keys : Vec K Z) (values : Vec V Z) (map : ColumnsState K V) : Type 0 where
    pub pairs : zip keys.items values.items ≡ map.pairs
    pub capacity : keys.cap ≡ map.capacity
    pub values_capacity : values.cap ≡ map.capacity
    pub keys_are : keys.items ≡ keys_of map.pairs
    pub values_are : values.items ≡ values_of map.pairs
    pub keys_length : length keys.items ≡ length map.pairs
    pub values_length : length values.items ≡ length map.pairs
    pub keys_len : keys.len ≡ length map.pairs
    pub values_len : values.len ≡ length map.pairs

  pub opened : (keys : Vec K Z) (values : Vec V Z) (map : ColumnsState K V) → seen keys values ≡ map → AreEven keys values
      → Opened keys values map
  opened keys values map view even = grind (arith, common_steps, keys_of-zip, length-zip_even, seconds-zip)

module _ {K V Z : Type 0} {keys : Vec K Z} {values : Vec V Z} {map : ColumnsState K V} (o : Opened keys values map) where
  -- a map of these pairs, whose columns keep their capacity
  pub pairs_are : {ps qs : List (K × V)} {capacity : ℕ} → ps ≡ qs → capacity ≡ keys.cap
      → ◌≡◌ {A = ColumnsState K V} (record { pairs = ps; capacity = capacity }) (columns_with map qs)
  pairs_are {ps} {qs} p same = λ i. record { pairs = p i; capacity = (same ∙ o.capacity) i }

  -- the pair at an index, from what stands there in each column
  pub pair_read : (i : ℕ) {k : K} {v : V} → i < length map.pairs → k ≡ get_or keys.items i k → v ≡ get_or values.items i v
      → slice_get map.pairs i ≡ Some (k, v)
  pair_read i {k} {v} within at_k at_v =
      ap (λ ps. slice_get ps i) (sym o.pairs) ∙ slice_get-zip keys.items values.items i k v (omega (arith, o.keys_length, within))
      (omega (arith, o.values_length, within)) at_k at_v

module _ {K V Z : Type 0} where
  -- the map whose values are written, one after the other
  pub written : (keys : Vec K Z) (values : Vec V Z) (map : ColumnsState K V) → seen keys values ≡ map → AreEven keys values → (w : List V)
      → ◌≡◌ {A = ColumnsState K V} (record { pairs = zip keys.items (refill values.len values.items w); capacity = keys.cap })
      (columns_with map (set_values map.pairs w))
  written keys values map view even w = grind (arith, common_steps, opened, pairs_are, zip-refill)

-- what the proofs of `Columns` go by
pub ruleset columns_steps = (common_steps, opened, pairs_are, written, slice_get-zip, slice_get_at, zip_push, zip-swap_remove_at, zip-set_key, zip-set_value)
