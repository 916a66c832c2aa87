-- What a search by a match on keys finds, and the keys at which it may call the match.
use Rattle.std.specs.Prelude.{◌≡◌, ℕ, ◌+◌, ◌<◌, ◌≤◌, Bool, true, false, List, length, slice_get, Option, Some, None, IfSome, IfNone, Result, Ok, Err}
use Rattle.std.specs.Map.{keys_of}
use Rattle.half_store.specs.Capacity.{buckets_of}
use Rattle.half_store.specs.Work.{Work, first_match_cost}
use Rattle.half_store.specs.declared.vecmap.search.Scan.{Scan}
use Rattle.half_store.specs.declared.vecmap.search.Scan.TheVariants.{ByKey}
use Rattle.half_store.specs.Store.{StoreState, Found, Vacancy, IsPlaced, IsVacancy}
use Rattle.half_store.specs.Table.{IsTableSearchCost}
use Rattle.std.specs.Borrow.{Bor}

-- the match returned this of the key at this index
abbrev pub ReturnsAt : {K : Type 0} → (K → Bool → Type 0) → List K → ℕ → Bool → Type 0
ReturnsAt {K} returns keys index answer = (k : K) → slice_get keys index ≡ Some k → returns k answer

-- this is the index of the first key that the match accepts, or none, if it rejects each
pub record IsFirstMatch {K : Type 0} (returns : K → Bool → Type 0) (keys : List K) (result : Option ℕ) : Type 0 where
  pub found : IfSome result (λ index. (index < length keys) × ReturnsAt returns keys index true)
  pub none_before : IfSome result (λ index. (earlier : ℕ) → earlier < index → ReturnsAt returns keys earlier false)
  pub absent : IfNone result ((index : ℕ) → index < length keys → ReturnsAt returns keys index false)

-- of the pairs in either form, if `has_hash` says that the pair at an index, with this key, has the searched hash
module _ {K V : Type 0} (returns : K → Bool → Type 0) (s : StoreState K V) (has_hash : ℕ → K → Type 0) where
  -- the match accepts the key at this index: in a vector it is the first that it accepts, in a table it is one of the hash
  pub record AcceptedAt (index : ℕ) : Type 0 where
    pub within : index < length s.pairs
    pub accepted : ReturnsAt returns (keys_of s.pairs) index true
    pub first : s.is_vec ≡ true → (earlier : ℕ) → earlier < index → ReturnsAt returns (keys_of s.pairs) earlier false
    pub hashed : s.is_vec ≡ false → (k : K) → slice_get (keys_of s.pairs) index ≡ Some k → has_hash index k

  -- the match rejects each held key, in a table each of the hash
  pub record NoneAccepted : Type 0 where
    pub rejected : (index : ℕ) (k : K) → slice_get (keys_of s.pairs) index ≡ Some k → (s.is_vec ≡ false → has_hash index k) → returns k false

  -- the search found the pair that is held here, or none, and if there is capacity a pair of the hash may be added here
  abbrev pub SearchOutcome : ℕ → Result Found Vacancy → Type 0
  SearchOutcome hash (Ok found) = AcceptedAt found.index × IsPlaced s found
  SearchOutcome hash (Err vacancy) = NoneAccepted × (0 < s.capacity → IsVacancy s hash vacancy)

-- a search of a store by the match under this hash
abbrev pub StoreSearch : {K V : Type 0} → (K → Bool → Type 0) → StoreState K V → ℕ → Result Found Vacancy → Type 0
StoreSearch returns s hash = SearchOutcome returns s (λ index k. slice_get s.table.hashes index ≡ Some hash) hash

-- the index that a search found
abbrev pub found_index : Result Found Vacancy → Option ℕ
found_index (Ok found) = Some found.index
found_index (Err vacancy) = None

-- a search for the first match among this many keys found this index, or none: it compared at least the keys up to the one
-- found, and at most all; key by key, exactly those
pub record IsVectorSearchCost (scan : Scan) (found : Option ℕ) (len : ℕ) (before after : Work) : Type 0 where
  pub asked : after.asked ≡ before.asked
  pub at_least : before.compared + first_match_cost found len ≤ after.compared
  pub at_most : after.compared ≤ before.compared + len
  pub by_key : scan ≡ ByKey → after.compared ≡ before.compared + first_match_cost found len
  pub looked : after.looked ≡ before.looked

-- what a search of a store under this hash cost that found this index, or none
pub record IsStoreSearchCost {K V : Type 0} (s : StoreState K V) (hash : ℕ) (scan : Scan) (index : Option ℕ) (before after : Work) : Type 0 where
  pub vector : s.is_vec ≡ true → IsVectorSearchCost scan index (length s.pairs) before after
  pub table : s.is_vec ≡ false → IsTableSearchCost s.table hash index before after
  pub buckets : s.is_vec ≡ false → s.table.buckets ≡ buckets_of s.capacity

-- each of these keys
abbrev pub CallableOnKeys : {K : Type 0} → (Bor K → Type 0) → List K → Type 0
CallableOnKeys {K} callable keys = (key : Bor K) (index : ℕ) → slice_get keys index ≡ Some key.now → callable key

-- each whose stored hash is this one
abbrev pub CallableOnKeysOfHash : {K : Type 0} → (Bor K → Type 0) → List ℕ → ℕ → List K → Type 0
CallableOnKeysOfHash {K} callable hashes hash keys =
    (key : Bor K) (index : ℕ) → slice_get hashes index ≡ Some hash → slice_get keys index ≡ Some key.now → callable key
