-- Lists of pairs with distinct keys: reading and changing the pair whose key passes a test, or equals k.
use Rattle.std.specs.Prelude.{◌≡◌, Bool, true, List, [], ◌∷◌, ◌++◌, Option, is_some, if◌then◌else◌}
use Rattle.std.specs.Option.{option_map_or}
use Rattle.std.specs.Map.{lookup, lookup_entry, remove_entry}
pub use Rattle.std.specs.Map.{keys_of, values_of, set_value}
pub use Rattle.half_store.specs.PairLists.{index_of, set_key_at, set_value_at, set_values, swap_remove_at}

-- the test of a lawful query for a key, as that of a text among keys that are strings: once it accepts a key, it accepts exactly its equals
abbrev pub IsQuery : {K : Type 0} → (K → K → Bool) → (K → Bool) → Type 0
IsQuery {K} eq test = (k other : K) → test k ≡ true → test other ≡ eq k other

module _ {K V : Type 0} (test : K → Bool) where
  -- whether a key that passes is held
  abbrev pub holds_by : List (K × V) → Bool
  holds_by pairs = is_some (lookup test pairs)

  -- if a key that passes is held, its pair keeps its key and its index and gets value v; otherwise the pair (k, v) is appended
  abbrev pub put_by : List (K × V) → K → V → List (K × V)
  put_by pairs k v = if holds_by pairs then set_value test pairs v else pairs ++ (k, v) ∷ []

  -- if a key that passes is held, its pair is gone and the last pair takes its index; otherwise the same pairs
  abbrev pub swap_out_by : List (K × V) → List (K × V)
  swap_out_by pairs = option_map_or (swap_remove_at pairs) (index_of test (keys_of pairs)) pairs

  -- the same, but the pairs behind it move up, in their order
  abbrev pub shift_out_by : List (K × V) → List (K × V)
  shift_out_by pairs = remove_entry test pairs

module _ {K V : Type 0} (eq : K → K → Bool) where
  -- the value of the held key that equals k
  abbrev pub value_of : List (K × V) → K → Option V
  value_of pairs k = lookup (eq k) pairs

  -- the stored pair of the held key that equals k
  abbrev pub stored_pair_of : List (K × V) → K → Option (K × V)
  stored_pair_of pairs k = lookup_entry (eq k) pairs

  -- whether a key equal to k is held
  abbrev pub holds : List (K × V) → K → Bool
  holds pairs k = holds_by (eq k) pairs

  -- if a key equal to k is held, its pair keeps its key and its index and gets value v; otherwise the pair (k, v) is appended
  abbrev pub put : List (K × V) → K → V → List (K × V)
  put pairs k v = put_by (eq k) pairs k v

  -- if a key equal to k is held, its pair is gone and the last pair takes its index; otherwise the same pairs
  abbrev pub swap_out : List (K × V) → K → List (K × V)
  swap_out pairs k = swap_out_by (eq k) pairs
