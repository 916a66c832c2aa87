-- What the calls cost: how often a key is hashed, how many keys are compared, and how many buckets are read.
use Rattle.std.specs.Prelude.{◌≡◌, ℕ, ◌+◌, ◌-◌, ◌≤◌, Bool, true, false, not, ◌&&◌, List, [], ◌∷◌, length, map, count_by, Option, IfSome, is_some, ◌==◌, nat_lt, if◌then◌else◌}
use Rattle.std.specs.Hash.{HashWrites}
use Rattle.halfbrown.specs.Ghosts.{HasherGhosts}
use Rattle.half_store.specs.Reach.{reach, filling_reads_in, HomesApart}
use Rattle.half_store.specs.Capacity.{buckets_of, least_table_capacity}
use Rattle.half_store.specs.Table.{hit_reads_in, all_hit_reads_in}
use Rattle.half_store.specs.Work.{Work, first_match_cost}
use Rattle.halfbrown.specs.CostRanges.{Cost, Range, TallyGrewBy, no_cost, plus_asked, plus_looked, unless_refused, exactly, between}
use Rattle.halfbrown.specs.State.{State, state_with, store_in}
use Rattle.halfbrown.specs.Pairs.{keys_of, index_of, holds}
use Rattle.halfbrown.specs.Growth.{is_full, is_vec_after}

-- how often a search hashes its key: never in a vector, once in a table
abbrev pub search_asked : Bool → ℕ
search_asked is_vec = if is_vec then 0 else 1

module _ {K V : Type 0} (hash : K → ℕ) where
  -- how many held keys have this hash: a search for it in a table compares no other
  abbrev pub keys_of_hash : List (K × V) → ℕ → ℕ
  keys_of_hash pairs wanted = count_by (λ q. hash q == wanted) (keys_of pairs)

  -- the length of an unsuccessful probe for this hash in a table of this capacity; a vector has no buckets
  abbrev pub miss_reads : Bool → ℕ → List (K × V) → ℕ → ℕ
  miss_reads is_vec capacity pairs wanted = if is_vec then 0 else reach (map hash (keys_of pairs)) (buckets_of capacity) wanted

  -- no two held keys of a table of this capacity have the same home bucket
  abbrev pub KeyHomesApart : ℕ → List (K × V) → Type 0
  KeyHomesApart capacity pairs = HomesApart (map hash (keys_of pairs)) (buckets_of capacity)

  -- a search under this hash that found this index, or none
  module _ (wanted : ℕ) (found : Option ℕ) where
    -- its comparisons: in a vector exactly all if it found none, and otherwise at least those in order up to and with the key that it found; in a
    -- table exactly the keys of that hash if it found none, and at least one of them if it found one
    abbrev pub search_compares : Bool → List (K × V) → Range
    search_compares is_vec pairs =
        if is_vec then between (first_match_cost found (length pairs)) (length pairs)
        else (if is_some found then between 1 (keys_of_hash pairs wanted) else exactly (keys_of_hash pairs wanted))

    -- its buckets: none in a vector; in a table exactly an unsuccessful probe if it found none, otherwise at least one and fewer than that
    abbrev pub search_reads : Bool → ℕ → List (K × V) → Range
    search_reads is_vec capacity pairs =
        let probe = miss_reads is_vec capacity pairs wanted in
        if is_vec then exactly 0 else (if is_some found then between 1 (probe - 1) else exactly probe)

    -- what it costs, if the builder is asked for `asked` hashes
    abbrev pub search_cost : ℕ → Bool → ℕ → List (K × V) → Cost
    search_cost asked is_vec capacity pairs =
        record { asked = asked; compared = search_compares is_vec pairs; looked = search_reads is_vec capacity pairs }

-- how many buckets of a table a search reads that finds the pair at this index
abbrev pub hit_reads : {K V S : Type 0} → State K V S → ℕ → ℕ
hit_reads m index = hit_reads_in (store_in m).table index

-- how many the searches read in all that find its pairs, one search for each
abbrev pub all_hit_reads : {K V S : Type 0} → State K V S → ℕ
all_hit_reads m = all_hit_reads_in (store_in m).table (length m.pairs)

-- how many the insertions read in all that put these pairs into an empty table of this capacity
abbrev pub filling_reads : {K V : Type 0} → (K → ℕ) → ℕ → List (K × V) → ℕ
filling_reads hash capacity pairs = filling_reads_in (buckets_of capacity) (map hash (keys_of pairs))

-- what a search under this hash cost, by the tally before it and after: it found this index, or none, and asked for `asked` hashes. In a
-- table a search that finds an index reads the same number of buckets each time (`hit`), and these numbers add up to what insertions of the
-- pairs read (`hits`)
pub record IsSearchCost {K V S : Type 0} (hash : S → K → ℕ) (wanted : ℕ) (m : State K V S) (found : Option ℕ) (asked : ℕ) (before after : Work) : Type 0 where
  pub grew : TallyGrewBy (search_cost (hash m.builder) wanted found asked m.is_vec m.capacity m.pairs) before after
  pub looked_once : m.is_vec ≡ false → is_some found ≡ true → KeyHomesApart (hash m.builder) m.capacity m.pairs
      → after.looked ≡ before.looked + 1
  pub hit : m.is_vec ≡ false → IfSome found (λ index. after.looked ≡ before.looked + hit_reads m index)
  pub hits : m.is_vec ≡ false → all_hit_reads m ≡ filling_reads (hash m.builder) m.capacity m.pairs
  pub short : miss_reads (hash m.builder) m.is_vec m.capacity m.pairs wanted ≤ length m.pairs + 1

-- what one search in the map for a key, or by a query for one, cost, by the tally before it and after: `writes` is what it feeds a hasher, and
-- `test` which keys it stands for
module _ {Q K V S H : Type 0} (hashes : HasherGhosts S K H) (writes : Q → HashWrites) (test : Q → K → Bool) (key : Q) (m : State K V S) where
  -- if the search hashed it, as it does in a table
  abbrev pub IsLookupCost : Work → Work → Type 0
  IsLookupCost before after = IsSearchCost hashes.hash (hashes.hash_writes m.builder (writes key)) m
      (index_of (test key) (keys_of m.pairs)) (search_asked m.is_vec) before after

  -- if its hash was given: the builder is not asked
  abbrev pub IsLookupCostByHash : Work → Work → Type 0
  IsLookupCostByHash before after = IsSearchCost hashes.hash (hashes.hash_writes m.builder (writes key)) m
      (index_of (test key) (keys_of m.pairs)) 0 before after

-- the buckets that an insertion probe of a new key k reads, if the capacity is enough for it
abbrev pub insertion_reads : {K V S : Type 0} → (S → K → ℕ) → State K V S → K → ℕ
insertion_reads hash m k = miss_reads (hash m.builder) m.is_vec m.capacity m.pairs (hash m.builder k)

module _ {K V S : Type 0} (eq : K → K → Bool) (hash : S → K → ℕ) where
  -- what a search for k in the map costs
  abbrev pub key_search_cost : State K V S → K → Cost
  key_search_cost m k = search_cost (hash m.builder) (hash m.builder k) (index_of (eq k) (keys_of m.pairs)) (search_asked m.is_vec) m.is_vec m.capacity m.pairs

  -- what one search for k in the map cost, by the tally before it and after
  abbrev pub IsKeySearchCost : State K V S → K → Work → Work → Type 0
  IsKeySearchCost m k before after = IsSearchCost hash (hash m.builder k) m (index_of (eq k) (keys_of m.pairs)) (search_asked m.is_vec) before after

  -- what searches in the map for these keys, one after another, cost, by the tally before the first and after the last
  unfoldable pub AreSearchCosts : State K V S → List K → Work → Work → Type 0
  AreSearchCosts m [] before after = after ≡ before
  AreSearchCosts m (k ∷ ks) before after = (between : Work) × IsKeySearchCost m k before between × AreSearchCosts m ks between after

module _ {K V S : Type 0} (limit : ℕ) where
  -- how often a granted switching call hashes for its switch: once for each pair of a full vector
  abbrev pub switch_asked : State K V S → ℕ
  switch_asked m = if is_full limit m then limit else 0

  -- whether the call was refused its switch, and so did nothing
  abbrev pub is_switch_refused : State K V S → Bool → Bool
  is_switch_refused m granted = is_full limit m && not granted

  -- how often an insertion hashes: for the switch, and once in a table; a refused switch hashes nothing
  abbrev pub insert_asked : State K V S → Bool → ℕ
  insert_asked m granted = if is_switch_refused m granted then 0 else switch_asked m + search_asked (is_vec_after limit m)

  -- the capacity once a granted switch is made
  abbrev pub capacity_after_switch : State K V S → ℕ
  capacity_after_switch m = if is_full limit m then least_table_capacity (limit + 1) else m.capacity

  -- whether one pair more needs growth once the switch is made
  abbrev pub addition_grows : State K V S → Bool
  addition_grows m = not (nat_lt (length m.pairs) (capacity_after_switch m))

  -- the capacity once it is enough for one pair more
  abbrev pub capacity_after_growth : State K V S → ℕ
  capacity_after_growth m = if addition_grows m then least_table_capacity (length m.pairs + 1) else capacity_after_switch m

  -- the map once a granted switch is made, as far as a cost depends on it: not on its table
  abbrev pub switched : State K V S → State K V S
  switched m = state_with m (is_vec_after limit m) m.pairs (capacity_after_switch m) m.builder

  -- the same once the capacity is enough for one pair more
  abbrev pub grown : State K V S → State K V S
  grown m = state_with m (is_vec_after limit m) m.pairs (capacity_after_growth m) m.builder

  module _ (eq : K → K → Bool) (hash : S → K → ℕ) where
    -- what an insertion of k costs: the switch hashes each key, one search follows in the form that it left, and, if a new key made
    -- the table grow, one insertion probe; a refused switch costs nothing
    abbrev pub insert_cost : State K V S → K → Bool → Cost
    insert_cost m k granted =
        unless_refused (is_switch_refused m granted) (plus_asked (switch_asked m)
        (plus_looked (if granted && not (holds eq m.pairs k) && addition_grows m then insertion_reads hash (grown m) k else 0)
        (key_search_cost eq hash (switched m) k)))

    -- what an insertion of a new key k without a search costs: the switch, the hash of k, and, if it is granted, one insertion probe
    abbrev pub new_key_cost : State K V S → K → Bool → Cost
    new_key_cost m k granted =
        record no_cost { asked = insert_asked m granted; looked = exactly (if granted then insertion_reads hash (grown m) k else 0) }

    -- what `raw_entry_mut`, `from_key` of k and `or_insert_entry` of k cost: the switch hashes each key, and one search follows, once the capacity
    -- is enough for one pair more; a new key is hashed again in a table, and one insertion probe made for it; if the capacity was refused
    -- they cost nothing
    abbrev pub raw_insert_cost : State K V S → K → Bool → Cost
    raw_insert_cost m k granted =
        let held = holds eq m.pairs k in
        unless_refused (not granted) (plus_asked (switch_asked m) (plus_asked (if held then 0 else search_asked (is_vec_after limit m))
        (plus_looked (if held then 0 else insertion_reads hash (grown m) k) (key_search_cost eq hash (grown m) k))))

    -- what an insertion of k cost, by the tally before it and after; in a table a held key is found as by each search (`hit`)
    pub record IsInsertCost (m : State K V S) (k : K) (granted : Bool) (before after : Work) : Type 0 where
      pub grew : TallyGrewBy (insert_cost m k granted) before after
      pub looked_once : is_vec_after limit m ≡ false → granted ≡ true → holds eq m.pairs k ≡ true
          → KeyHomesApart (hash m.builder) (capacity_after_switch m) m.pairs → after.looked ≡ before.looked + 1
      pub hit : m.is_vec ≡ false → granted ≡ true
          → IfSome (index_of (eq k) (keys_of m.pairs)) (λ index. after.looked ≡ before.looked + hit_reads m index)
