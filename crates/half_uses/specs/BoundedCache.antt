-- Which pairs a bounded cache keeps, the oldest first.
use Rattle.std.specs.Prelude.{ℕ, ◌-◌, Bool, List, [], ◌∷◌, ◌++◌, Option, None, drop, length, nat_lt, slice_get, if◌then◌else◌}
use Rattle.std.specs.Map.{lookup_entry, remove_entry}
use Rattle.std.specs.Option.{option_map_or}
use Rattle.halfbrown.specs.Pairs.{holds, stored_pair_of}

-- the last of these pairs, as many as the bound allows
abbrev pub newest : {X : Type 0} → ℕ → List X → List X
newest bound pairs = drop (length pairs - bound) pairs

module _ {K V : Type 0} where
  -- the pair whose key passes the test comes last, if there is one
  abbrev pub refreshed : (K → Bool) → List (K × V) → List (K × V)
  refreshed test pairs = option_map_or (λ pair. remove_entry test pairs ++ pair ∷ []) (lookup_entry test pairs) pairs

  -- the pair that makes way for one of this key: the one that the key has, or the oldest if there is no room for one more
  abbrev pub making_way : (K → K → Bool) → ℕ → List (K × V) → K → Option (K × V)
  making_way eq bound pairs k =
      if holds eq pairs k then stored_pair_of eq pairs k else (if nat_lt (length pairs) bound then None else slice_get pairs 0)
