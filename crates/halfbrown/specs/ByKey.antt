-- What a loop has made that counts keys, or sums or gathers values by key; and pairs under what is read of their keys, as the bytes of texts.
use Rattle.std.specs.Prelude.{◌≡◌, ℕ, Bool, List, [], ◌∷◌, ◌++◌, map, if◌then◌else◌, unwrap_or, count_by, sum}
use Rattle.std.specs.List.{filter, fold, list_any}
use Rattle.std.specs.Option.{option_map_or}
use Rattle.halfbrown.specs.Pairs.{keys_of, values_of, value_of}

-- the pairs under what is read of their keys, in the same order
abbrev pub keyed_by : {K B V : Type 0} → (K → B) → List (K × V) → List (B × V)
keyed_by {K} {B} {V} read pairs = map {A = K × V} {B = B × V} (λ p. (read p.0, p.1)) pairs

module _ {K : Type 0} (eq : K → K → Bool) where
  -- the keys, with k at the end if none equals it
  abbrev pub add_key : List K → K → List K
  add_key keys k = if list_any (eq k) keys then keys else keys ++ k ∷ []

  -- the keys, and behind them, in order, each of more that equals none before it
  abbrev pub add_keys : List K → List K → List K
  add_keys keys more = fold add_key keys more

  -- of equal items the first, in order
  abbrev pub first_of_each : List K → List K
  first_of_each xs = add_keys [] xs

  -- the pairs count these items: the value of each is how often it stands among them, and the keys are in order of first occurrence
  pub record CountsEach (xs : List K) (pairs : List (K × ℕ)) : Type 0 where
    pub counts : (q : K) → unwrap_or (value_of eq pairs q) 0 ≡ count_by (eq q) xs
    pub keys : keys_of pairs ≡ first_of_each xs

  -- the pairs sum these items by key: each key has the sum of the values of its items, and the keys are in order of first occurrence
  pub record SumsEach (xs : List (K × ℕ)) (pairs : List (K × ℕ)) : Type 0 where
    pub sums : (q : K) → unwrap_or (value_of eq pairs q) 0 ≡ sum (values_of (filter (λ x. eq q x.0) xs))
    pub keys : keys_of pairs ≡ first_of_each (keys_of xs)

  -- the pairs gather the values of these items by key: what is read of the value of each key are those of its items, in order, and the
  -- keys are in order of their first occurrence
  pub record GroupsEach {X V : Type 0} (read : V → List X) (xs : List (K × X)) (pairs : List (K × V)) : Type 0 where
    pub groups : (q : K) → option_map_or read (value_of eq pairs q) [] ≡ values_of (filter (λ x. eq q x.0) xs)
    pub keys : keys_of pairs ≡ first_of_each (keys_of xs)
