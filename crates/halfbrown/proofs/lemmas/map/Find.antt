-- What a search costs.
use Rattle.halfbrown.specs.Pairs.{IsQuery}
use Rattle.halfbrown.proofs.Common.{◌≡◌, ℕ, ◌<◌, Bool, true, false, length, arith, get_or, slice_get, Option, map, common_steps}
use Rattle.halfbrown.proofs.Common.{length-keys_of, slice_get-get_or, slice_get-map, same_Some, IsDistinct, keys_of, found_index, index_of, StoreState, Work}
use Rattle.halfbrown.proofs.Common.{Found, Vacancy, IsSearchCost, state_in, KeyFoundAt, KeyMissing, KeySearch, State, IsPlacedIn, IsVacancyIn}
use Rattle.std.proofs.Props.{props}
use Rattle.half_store.specs.declared.vecmap.search.Scan.{Scan}
use Rattle.std.specs.Prelude.{Result}
use Rattle.half_store.specs.Search.{StoreSearch, IsStoreSearchCost}
use Rattle.halfbrown.specs.Lookup.{MatchFoundAt, MatchMissing, MatchSearch}
use Rattle.halfbrown.proofs.lemmas.pairs.Indices.{first_matched, index_of_first, none_at, absent_of_none}

module _ {K V S : Type 0} (hash : S → K → ℕ) (wanted own : ℕ) (m : State K V S) (before after : Work) (index : Option ℕ) where
  -- the costs under one hash are those under another that is the same in a table
  pub costs_for_other : (m.is_vec ≡ false → wanted ≡ own) → IsSearchCost hash wanted m index 0 before after
      → IsSearchCost hash own m index 0 before after
  costs_for_other same costs = grind (arith, common_steps)

-- Vacancies for a pair: for which hash they are.

-- a vacancy for one hash is one for another that is the same in a table
pub vacancy_for : {K V S : Type 0} (m : State K V S) (hash other : ℕ) → (m.is_vec ≡ false → hash ≡ other) → (vacancy : Vacancy)
    → IsVacancyIn m hash vacancy → IsVacancyIn m other vacancy
vacancy_for m hash other same vacancy vacant = grind (arith, common_steps)

-- that a pair may be added here is one fact
pub vacancy-prop : {K V S : Type 0} (m : State K V S) (hash : ℕ) (vacancy : Vacancy) → IsProp (IsVacancyIn m hash vacancy)
vacancy-prop m hash vacancy = Prim.hlevel props

-- and that one is held here
pub placed-prop : {K V S : Type 0} (m : State K V S) (found : Found) → IsProp (IsPlacedIn m found)
placed-prop m found = Prim.hlevel props

-- What a search by a match on keys says of a key, if the match is the test of one.

-- the index that a search by a test found is that of the first key that passes
module _ {K V S : Type 0} (test : K → Bool) (wanted : ℕ) (m : State K V S) where
  pub found_is_index : (result : Result Found Vacancy) → KeySearch test wanted m result → found_index result ≡ index_of test (keys_of m.pairs)
  found_is_index result at = grind (arith, common_steps)

module _ {K V S : Type 0} (test : K → Bool) (returns : K → Bool → Type 0) (decides : (k : K) (b : Bool) → returns k b → b ≡ test k)
    (eq : K → K → Bool) (one_class : IsQuery eq test)
    (hash : S → K → ℕ) (wanted : ℕ) (m : State K V S) (distinct : IsDistinct eq (keys_of m.pairs)) where
  -- the key that is accepted is the one that passes
  index_of_match : (index : ℕ) → MatchFoundAt returns hash wanted m index → KeyFoundAt test m.pairs index
  index_of_match index found =
      let within : index < length (keys_of m.pairs) = omega (arith, found.within, length-keys_of m.pairs) in
      index_of_first test m.pairs index (first_matched test eq one_class (keys_of m.pairs) index distinct within
      (λ d. decides (get_or (keys_of m.pairs) index d) true (found.accepted _ (slice_get-get_or (keys_of m.pairs) index d within))))

  module _ (own : ℕ) (known : m.is_vec ≡ false → wanted ≡ own) (hashed : (k : K) → test k ≡ true → hash m.builder k ≡ own) where
    -- if each key of the hash is refused none passes
    absent_of_no_match : MatchMissing returns hash wanted m → KeyMissing test m.pairs
    absent_of_no_match none =
        absent_of_none test m.pairs (none_at test (keys_of m.pairs) (λ j d within.
        let k = get_or (keys_of m.pairs) j d in
        grind (arith, common_steps, decides k false, hashed k, none.rejected j k, slice_get-get_or (keys_of m.pairs) j d within)))

    -- a search by the match is one for the key, under its own hash
    pub looks_up : (result : Result Found Vacancy) → MatchSearch returns hash wanted m result → KeySearch test own m result
    looks_up result found = grind (arith, common_steps, absent_of_no_match, index_of_match, vacancy_for)

module _ {K V S : Type 0} (hash : S → K → ℕ) (wanted : ℕ) (s : StoreState K V) (builder : S)
    (hashed : s.is_vec ≡ false → s.table.hashes ≡ map (hash builder) (keys_of s.pairs)) where
  -- a search of the store by the match is one of the map
  pub matches_of : (returns : K → Bool → Type 0) (result : Result Found Vacancy) → StoreSearch returns s wanted result
      → MatchSearch returns hash wanted (state_in s builder) result
  matches_of returns result found = grind (arith, common_steps, same_Some, slice_get, slice_get-map)

  -- and costs as much
  pub match_costs : (scan : Scan) (index : Option ℕ) (before after : Work) → IsStoreSearchCost s wanted scan index before after
      → IsSearchCost hash wanted (state_in s builder) index 0 before after
  match_costs scan index before after cost = grind (arith, common_steps, length-keys_of)
