-- What a search in a map returns, for a key, or by a match on keys under a given hash.
use Rattle.std.specs.Prelude.{◌≡◌, ℕ, ◌<◌, Bool, true, false, List, [], ◌∷◌, ◌++◌, length, slice_get, Option, None, Some, Result, Ok, Err, ◌+◌, is_some, option_and_then}
use Rattle.std.specs.Map.{keys_of, values_of, lookup, lookup_entry}
pub use Rattle.half_store.specs.declared.store.find.Found.{Found}
pub use Rattle.half_store.specs.declared.store.find.Vacancy.{Vacancy}
use Rattle.halfbrown.specs.Pairs.{index_of, set_value_at, swap_remove_at, holds_by, set_value, put_by, swap_out_by}
use Rattle.halfbrown.specs.State.{State, store_in, IsPlacedIn, IsVacancyIn}
use Rattle.half_store.specs.Search.{AcceptedAt, NoneAccepted, SearchOutcome}
use Rattle.half_store.specs.Work.{Work, first_match_cost}
use Rattle.halfbrown.specs.Costs.{IsSearchCost}

module _ {K V : Type 0} (test : K → Bool) (pairs : List (K × V)) where
  -- the pair at this index is that of the key that passes
  pub record KeyFoundAt (index : ℕ) : Type 0 where
    pub within : index < length pairs
    pub index_is : index_of test (keys_of pairs) ≡ Some index
    pub held : holds_by test pairs ≡ true
    pub value : lookup test pairs ≡ slice_get (values_of pairs) index
    pub pair : lookup_entry test pairs ≡ slice_get pairs index
    pub set_is : (v : V) → set_value test pairs v ≡ set_value_at pairs index v
    pub put_is : (k : K) (v : V) → put_by test pairs k v ≡ set_value_at pairs index v
    pub take_is : swap_out_by test pairs ≡ swap_remove_at pairs index

  -- no key that passes is held
  pub record KeyMissing : Type 0 where
    pub index : index_of test (keys_of pairs) ≡ None
    pub held : holds_by test pairs ≡ false
    pub value : lookup test pairs ≡ None
    pub pair : lookup_entry test pairs ≡ None
    pub put_is : (k : K) (v : V) → put_by test pairs k v ≡ pairs ++ (k, v) ∷ []
    pub take_is : swap_out_by test pairs ≡ pairs

  -- the index of the pair whose key passes, or none if no such key is held
  abbrev pub FindsIndex : Option ℕ → Type 0
  FindsIndex (Some index) = KeyFoundAt index
  FindsIndex None = KeyMissing

-- a search found the key that passes the test here, or none is held, and if there is capacity a pair of the hash may be added here
abbrev pub KeySearch : {K V S : Type 0} → (K → Bool) → ℕ → State K V S → Result Found Vacancy → Type 0
KeySearch test hash m (Ok found) = KeyFoundAt test m.pairs found.index × IsPlacedIn m found
KeySearch test hash m (Err vacancy) = KeyMissing test m.pairs × (0 < m.capacity → IsVacancyIn m hash vacancy)

module _ {K V S : Type 0} (returns : K → Bool → Type 0) (hash : S → K → ℕ) (wanted : ℕ) (m : State K V S) where
  -- the match accepts the key at this index: in a vector it is the first that it accepts, in a table it is one of this hash
  abbrev pub MatchFoundAt : ℕ → Type 0
  MatchFoundAt = AcceptedAt returns (store_in m) (λ index k. hash m.builder k ≡ wanted)

  -- the match refuses each held key, in a table each of this hash
  abbrev pub MatchMissing : Type 0
  MatchMissing = NoneAccepted returns (store_in m) (λ index k. hash m.builder k ≡ wanted)

  -- a search by the match found the pair that is held here, or none, and if there is capacity a pair of the hash may be added here
  abbrev pub MatchSearch : Result Found Vacancy → Type 0
  MatchSearch = SearchOutcome returns (store_in m) (λ index k. hash m.builder k ≡ wanted) wanted

  -- the search returned this pair, or none
  abbrev pub FindsMatch : Option (K × V) → Type 0
  FindsMatch None = MatchMissing
  FindsMatch (Some pair) = (index : ℕ) × (slice_get m.pairs index ≡ Some pair) × MatchFoundAt index

-- what a search by a match cost that found this pair, or none, under this given hash: in a vector the match was called for the
-- keys in order, exactly up to and with the one that it accepted, or for all
pub record IsMatchCost {K V S : Type 0} (hash : S → K → ℕ) (wanted : ℕ) (m : State K V S) (found : Option (K × V)) (before after : Work) : Type 0 where
  pub index : Option ℕ
  pub at : option_and_then (slice_get m.pairs) index ≡ found
  pub is_found : is_some index ≡ is_some found
  pub costs : IsSearchCost hash wanted m index 0 before after
  pub in_order : m.is_vec ≡ true → after.compared ≡ before.compared + first_match_cost index (length m.pairs)
