-- What holds of every search.
use Rattle.half_laws.proofs.Common.{◌≡◌, ℕ, ◌+◌, ◌-◌, ◌<◌, ◌≤◌, ◌==◌, Bool, true, false, not, ◌&&◌, refl, sym, ap, ◌∙◌, subst}
use Rattle.half_laws.proofs.Common.{arith, List, length, map, cond, None, is_some, IsPermutation, if◌then◌else◌, and_right}
use Rattle.half_laws.proofs.Common.{common_steps, length-keys_of, keys_of, buckets_of, least_buckets, index_of, Work}
use Rattle.half_laws.proofs.Common.{four-le_count, buckets_for-least, buckets_of-capacity_of, capacity_for-capacity_of, Command}
use Rattle.half_laws.proofs.Common.{Insert, InsertNew, EntryOrInsert, RawOrInsert, TallyGrewBy, search_asked, keys_of_hash}
use Rattle.half_laws.proofs.Common.{miss_reads, search_compares, search_reads, search_cost, key_search_cost, switched, grown}
use Rattle.half_laws.proofs.Common.{insertion_reads, insert_cost, raw_insert_cost, new_key_cost, is_switch_refused}
use Rattle.half_laws.proofs.Common.{capacity_after_switch, capacity_after_growth, addition_grows, IsSearchCost, IsInsertCost}
use Rattle.half_laws.proofs.Common.{is_vec_after, holds, holds_by, command_cost, State, state_with, IsValid, IsTableCapacity}
use Rattle.half_laws.proofs.Common.{full_len}
use Rattle.std.proofs.lemmas.List.Sorted.{IsPermutation-map, length_permutation, sum_by-IsPermutation, list_any-IsPermutation}
use Rattle.std.proofs.Math.ListN.{length-map}
use Rattle.std.proofs.lemmas.Map.Made.{is_some-lookup}
use Rattle.half_store.specs.Reach.{reach}
use Rattle.half_store.specs.Work.{first_match_cost}
use Rattle.half_store.proofs.lemmas.table.Reach.{reach-none}
use Rattle.half_store.proofs.lemmas.table.History.{reach-permutation}
use Rattle.half_laws.proofs.lemmas.probes.{crowding_law}
use Rattle.halfbrown.specs.CostRanges.{Range, Cost, exactly, between, add_ranges, no_cost}
use Rattle.half_laws.specs.MapLaws.{HoldSamePairs, GrewExactlyBy, HistoryLaw, InsertionHistoryLaw, CrowdedSearchLaw}
use Rattle.half_laws.specs.MapLaws.{CrowdedInsertionLaw}
use Rattle.half_laws.specs.MapLaws.{CrowdedProbeLaw, CrowdedGrowthLaw, CrowdedUncheckedLaw, CommandCostLaw, CommandHashesLaw}
use Rattle.half_laws.specs.MapLaws.{CommandBucketsLaw, finds_in_vector}
use Rattle.halfbrown.proofs.lemmas.pairs.Indices.{absent_of_unheld, found_where_held}

-- a table with a capacity has more buckets than that
buckets-more : (capacity : ℕ) → IsTableCapacity capacity → 0 < buckets_of capacity → capacity < buckets_of capacity
buckets-more capacity is some =
    let m : ℕ = least_buckets capacity in
    let l = buckets_for-least capacity in
    let same : buckets_of capacity ≡ m = ap buckets_of is ∙ buckets_of-capacity_of m l.count in
    let four : 4 ≤ m = four-le_count m l.count (omega arith) in
    omega arith

-- a search in a table reads at most an unsuccessful probe
pub looks_most : (held : Bool) (probe : ℕ) → (if held then between 1 (probe - 1) else exactly probe).greatest ≤ probe
looks_most held probe = grind (arith, common_steps)

-- a range of one number
abbrev IsExact : Range → Type 0
IsExact range = range.least ≡ range.greatest

exact_unless_refused : (refused : Bool) (range : Range) → IsExact range → IsExact (if refused then exactly 0 else range)
exact_unless_refused true range exact = refl
exact_unless_refused false range exact = exact

-- the work of a cost, if that is exact
abbrev least_work : Cost → Work
least_work cost = record { asked = cost.asked; compared = cost.compared.least; looked = cost.looked.least }

grew_exactly : (cost : Cost) (before after : Work) → IsExact cost.compared → IsExact cost.looked → TallyGrewBy cost before after
    → GrewExactlyBy (least_work cost) before after
grew_exactly cost before after compared looked grew = record {
  asked = grew.asked;
  compared = omega (arith, compared, grew.compared.at_least, grew.compared.at_most);
  looked = omega (arith, looked, grew.looked.at_least, grew.looked.at_most);
}

module _ {K V S : Type 0} (hash : S → K → ℕ) where
  pub crowded_probe_law : CrowdedProbeLaw V hash
  crowded_probe_law builder capacity pairs wanted passed is fits l = grind (arith, common_steps, buckets-more, crowding_law, length-keys_of, length-map, map, reach-none)

  module _ (limit : ℕ) (eq : K → K → Bool) where
    pub crowded_search_law : CrowdedSearchLaw V limit eq hash
    crowded_search_law m wanted found asked before after passed state form costs l = grind (arith, common_steps, crowded_probe_law, is_some, looks_most)

    module _ (m : State K V S) (s : IsValid limit eq m) (stays : is_vec_after limit m ≡ false) where
      -- once the form has changed, the capacity is that of a table that the pairs fit
      switched_fits : IsTableCapacity (capacity_after_switch limit m) × (length m.pairs ≤ capacity_after_switch limit m)
      switched_fits = grind (arith, common_steps, buckets_for-least, capacity_for-capacity_of, full_len)

      -- and so is the one that is enough for one pair more
      grown_fits : IsTableCapacity (capacity_after_growth limit m) × (length m.pairs ≤ capacity_after_growth limit m)
      grown_fits = grind (arith, common_steps, buckets_for-least, capacity_for-capacity_of, switched_fits)

    pub crowded_growth_law : CrowdedGrowthLaw V limit eq hash
    crowded_growth_law m k granted before after s stays grows costs =
        let is = switched_fits m s stays in
        let more = grown_fits m s stays in
        let h : K → ℕ = hash m.builder in
        let first : ℕ = miss_reads h false (capacity_after_switch limit m) m.pairs (h k) in
        let second : ℕ = miss_reads h false (capacity_after_growth limit m) m.pairs (h k) in
        record {
          first = first;
          second = second;
          read = let held = found_where_held (eq k) m.pairs in grind (arith, common_steps);
          first_crowded = λ passed l. crowded_probe_law m.builder (capacity_after_switch limit m) m.pairs (hash m.builder k) passed is.0 is.1 l;
          second_crowded = λ passed l. crowded_probe_law m.builder (capacity_after_growth limit m) m.pairs (hash m.builder k) passed more.0 more.1
              l;
        }

    pub crowded_unchecked_law : CrowdedUncheckedLaw V limit eq hash
    crowded_unchecked_law m k granted before after passed s grew l = grind (arith, common_steps, crowded_probe_law, grown_fits)

    pub crowded_insertion_law : CrowdedInsertionLaw V limit eq hash
    crowded_insertion_law m k granted before after passed s none costs l =
        grind (arith, common_steps, crowded_probe_law, is_some, looks_most, switched_fits)

  keys-permutation : (xs ys : List (K × V)) → IsPermutation xs ys → IsPermutation (keys_of xs) (keys_of ys)
  keys-permutation xs ys p = IsPermutation-map (λ (e : K × V). e.0) xs ys p

  -- if no key passes the test, a search in a vector compares each key
  comparisons-unheld : (test : K → Bool) (pairs : List (K × V)) → holds_by test pairs ≡ false
      → first_match_cost (index_of test (keys_of pairs)) (length pairs) ≡ length pairs
  comparisons-unheld test pairs unheld = let absent = absent_of_unheld test pairs unheld in
      ap (λ i. first_match_cost i (length pairs)) absent.index

  -- what a search that finds none compares, and what it reads: both are exact
  module _ (test : K → Bool) (h : K → ℕ) (wanted : ℕ) (pairs : List (K × V)) (unheld : holds_by test pairs ≡ false) where
    finds_none : index_of test (keys_of pairs) ≡ None
    finds_none = let absent = absent_of_unheld test pairs unheld in absent.index

    compares-exact : (is_vec : Bool) → IsExact (search_compares h wanted (index_of test (keys_of pairs)) is_vec pairs)
    compares-exact is_vec = rw finds_none (grind (arith, common_steps))

    looks-exact : (is_vec : Bool) (capacity : ℕ) → IsExact (search_reads h wanted (index_of test (keys_of pairs)) is_vec capacity pairs)
    looks-exact is_vec capacity = rw finds_none (grind (arith, common_steps))

  -- what a search costs by this test, under this hash, that hashed so often
  abbrev cost_asking : (K → Bool) → ℕ → ℕ → State K V S → Cost
  cost_asking test wanted asked m = search_cost (hash m.builder) wanted (index_of test (keys_of m.pairs)) asked m.is_vec m.capacity m.pairs

  search_exactly : (m : State K V S) (test : K → Bool) (wanted asked : ℕ) (before after : Work) → holds_by test m.pairs ≡ false
      → IsSearchCost hash wanted m (index_of test (keys_of m.pairs)) asked before after
      → GrewExactlyBy (least_work (cost_asking test wanted asked m)) before after
  search_exactly m test wanted asked before after unheld costs =
      grew_exactly (cost_asking test wanted asked m) before after
      (compares-exact test (hash m.builder) wanted m.pairs unheld m.is_vec)
      (looks-exact test (hash m.builder) wanted m.pairs unheld m.is_vec m.capacity) costs.grew

  -- the same pairs in another order
  module _ (builder : S) (xs ys : List (K × V)) (p : IsPermutation xs ys) (test : K → Bool) (wanted : ℕ) where
    held-same : holds_by test xs ≡ holds_by test ys
    held-same = is_some-lookup test xs ∙ list_any-IsPermutation test (keys_of xs) (keys_of ys) (keys-permutation xs ys p)
        ∙ sym (is_some-lookup test ys)

    found-same : is_some (index_of test (keys_of xs)) ≡ is_some (index_of test (keys_of ys))
    found-same = found_where_held test xs ∙ held-same ∙ sym (found_where_held test ys)

    keys_of_hash-same : keys_of_hash (hash builder) xs wanted ≡ keys_of_hash (hash builder) ys wanted
    keys_of_hash-same = sym
        (sum_by-IsPermutation (λ q. cond (hash builder q == wanted) 1 0) (keys_of xs) (keys_of ys) (keys-permutation xs ys p))

    reach-same : (m : ℕ) → reach (map (hash builder) (keys_of xs)) m wanted ≡ reach (map (hash builder) (keys_of ys)) m wanted
    reach-same m = reach-permutation (map (hash builder) (keys_of xs)) (map (hash builder) (keys_of ys)) m wanted
        (IsPermutation-map (hash builder) (keys_of xs) (keys_of ys) (keys-permutation xs ys p))

    compares-same : (is_vec : Bool) → (is_vec && holds_by test xs) ≡ false
        → search_compares (hash builder) wanted (index_of test (keys_of xs)) is_vec xs
        ≡ search_compares (hash builder) wanted (index_of test (keys_of ys)) is_vec ys
    compares-same is_vec unheld = grind (arith, common_steps, keys_of_hash-same, comparisons-unheld, found-same, held-same, length_permutation)

    looks-same : (is_vec : Bool) (capacity : ℕ)
        → search_reads (hash builder) wanted (index_of test (keys_of xs)) is_vec capacity xs
        ≡ search_reads (hash builder) wanted (index_of test (keys_of ys)) is_vec capacity ys
    looks-same is_vec capacity = grind (arith, common_steps, found-same, reach-same)

  pub history_law : HistoryLaw V hash
  history_law a b test wanted asked a_before a_after b_before b_after same unheld a_costs b_costs =
      let moved : cost_asking test wanted asked a ≡ cost_asking test wanted asked b =
      rw (same.form, same.capacity, same.builder) (λ i. record {
        asked = asked;
        compared = compares-same b.builder a.pairs b.pairs same.pairs test wanted b.is_vec
            (and_right b.is_vec (holds_by test a.pairs) unheld) i;
        looked = looks-same b.builder a.pairs b.pairs same.pairs test wanted b.is_vec b.capacity i;
      }) in (
        least_work (cost_asking test wanted asked b),
        subst (λ cost. GrewExactlyBy (least_work cost) a_before a_after) moved
            (search_exactly a test wanted asked a_before a_after unheld a_costs),
        search_exactly b test wanted asked b_before b_after (sym (held-same b.builder a.pairs b.pairs same.pairs test wanted) ∙ unheld)
            b_costs,
      )

  module _ (eq : K → K → Bool) where
    insertion_exactly : (limit : ℕ) (m : State K V S) (k : K) (granted : Bool) (before after : Work) → holds eq m.pairs k ≡ false
        → IsInsertCost limit eq hash m k granted before after
        → GrewExactlyBy (least_work (insert_cost limit eq hash m k granted)) before after
    insertion_exactly limit m k granted before after unheld costs =
        let stays : Bool = is_vec_after limit m in
        let probe : ℕ = if granted && not (holds eq m.pairs k)
        && addition_grows limit m then insertion_reads hash (grown limit m) k else 0 in
        grew_exactly (insert_cost limit eq hash m k granted) before after
        (exact_unless_refused (is_switch_refused limit m granted) (key_search_cost eq hash (switched limit m) k).compared
        (compares-exact (eq k) (hash m.builder) (hash m.builder k) m.pairs unheld stays))
        (exact_unless_refused (is_switch_refused limit m granted)
        (add_ranges (key_search_cost eq hash (switched limit m) k).looked (exactly probe))
        (ap (λ n. n + probe) (looks-exact (eq k) (hash m.builder) (hash m.builder k) m.pairs unheld stays (capacity_after_switch limit m))))
        costs.grew

  module _ (limit : ℕ) (eq : K → K → Bool) where
    module _ (is_vec : Bool) (xs ys : List (K × V)) (capacity : ℕ) (builder : S) (some others : State K V S)
        (p : IsPermutation xs ys) where
      abbrev first : State K V S
      first = state_with some is_vec xs capacity builder

      abbrev second : State K V S
      second = state_with others is_vec ys capacity builder

      long : length xs ≡ length ys
      long = sym (length_permutation xs ys p)

      held : (k : K) → holds eq xs k ≡ holds eq ys k
      held k = held-same builder xs ys p (eq k) (hash builder k)

      found : (k : K) → is_some (index_of (eq k) (keys_of xs)) ≡ is_some (index_of (eq k) (keys_of ys))
      found k = found-same builder xs ys p (eq k) (hash builder k)

      looked : (k : K) (m : ℕ)
          → reach (map (hash builder) (keys_of xs)) m (hash builder k) ≡ reach (map (hash builder) (keys_of ys)) m (hash builder k)
      looked k m = reach-same builder xs ys p (eq k) (hash builder k) m

      -- the form after a granted switching call on this many pairs
      abbrev stays : ℕ → Bool
      stays n = is_vec && not (is_vec && (n == limit))

      module _ (k : K) where
        search-compared : (is_vec && holds eq xs k) ≡ false
            → (key_search_cost eq hash first k).compared ≡ (key_search_cost eq hash second k).compared
        search-compared none = compares-same builder xs ys p (eq k) (hash builder k) is_vec none

        search-looked : (key_search_cost eq hash first k).looked ≡ (key_search_cost eq hash second k).looked
        search-looked = simp (found k, looked k)

        -- the search of a switching call
        searched-alike : (stays (length xs) && holds eq xs k) ≡ false
            → (key_search_cost eq hash (switched limit first) k).compared ≡ (key_search_cost eq hash (switched limit second) k).compared
        searched-alike none = compares-same builder xs ys p (eq k) (hash builder k) (stays (length xs)) none
            ∙ (λ i. search_compares (hash builder) (hash builder k) (index_of (eq k) (keys_of ys)) (stays (long i)) ys)

        module _ (granted : Bool) where
          insert-asked : (insert_cost limit eq hash first k granted).asked ≡ (insert_cost limit eq hash second k granted).asked
          insert-asked = simp long

          insert-looked : (insert_cost limit eq hash first k granted).looked ≡ (insert_cost limit eq hash second k granted).looked
          insert-looked = simp (long, held k, found k, looked k)

          insert-compared : (stays (length xs) && holds eq xs k) ≡ false
              → (insert_cost limit eq hash first k granted).compared ≡ (insert_cost limit eq hash second k granted).compared
          insert-compared none = λ i. if is_vec && (long i == limit) && not granted then exactly 0 else searched-alike none i

          insert-same : (stays (length xs) && holds eq xs k) ≡ false
              → insert_cost limit eq hash first k granted ≡ insert_cost limit eq hash second k granted
          insert-same none = λ i. record { asked = insert-asked i; compared = insert-compared none i; looked = insert-looked i }

          -- an insertion by a raw entry
          raw-looked : (raw_insert_cost limit eq hash first k granted).looked ≡ (raw_insert_cost limit eq hash second k granted).looked
          raw-looked = simp (long, held k, found k, looked k)

          raw-compared : (stays (length xs) && holds eq xs k) ≡ false
              → (raw_insert_cost limit eq hash first k granted).compared ≡ (raw_insert_cost limit eq hash second k granted).compared
          raw-compared none = λ i. if not granted then exactly 0 else searched-alike none i

          -- an insertion without a search, if the key is not held
          added-same : (if holds eq xs k then no_cost else new_key_cost limit eq hash first k granted)
              ≡ (if holds eq ys k then no_cost else new_key_cost limit eq hash second k granted)
          added-same = simp (long, held k, looked k)

      hashes-same : (command : Command K V) (granted : Bool)
          → (command_cost limit eq hash first command granted).asked ≡ (command_cost limit eq hash second command granted).asked
      hashes-same (Insert k v) granted = insert-asked k granted
      hashes-same (InsertNew k v) granted = ap (λ cost. search_asked is_vec + cost.asked) (added-same k granted)
      hashes-same (EntryOrInsert k v) granted = insert-asked k granted
      hashes-same (RawOrInsert k v) granted = simp (long, held k)
      hashes-same command granted = refl

      buckets-same : (command : Command K V) (granted : Bool)
          → (command_cost limit eq hash first command granted).looked ≡ (command_cost limit eq hash second command granted).looked
      buckets-same command granted = grind (arith, common_steps, added-same, insert-looked, not, raw-looked, search-looked)

      compared-same : (command : Command K V) (granted : Bool) → finds_in_vector limit eq first command ≡ false
          → (command_cost limit eq hash first command granted).compared ≡ (command_cost limit eq hash second command granted).compared
      compared-same command granted none = grind (arith, common_steps, added-same, insert-compared, not, raw-compared, search-compared)

      cost-same : (command : Command K V) (granted : Bool) → finds_in_vector limit eq first command ≡ false
          → command_cost limit eq hash first command granted ≡ command_cost limit eq hash second command granted
      cost-same command granted none = grind (arith, common_steps, buckets-same, compared-same, hashes-same, looked)

    -- two maps of the same form, capacity and builder
    module _ (a b : State K V S) (same : HoldSamePairs a b) where
      abbrev moved : State K V S
      moved = state_with a b.is_vec a.pairs b.capacity b.builder

      alike : a ≡ moved
      alike = λ i. state_with a (same.form i) a.pairs (same.capacity i) (same.builder i)

      unheld-too : (k : K) → holds eq a.pairs k ≡ false → holds eq b.pairs k ≡ false
      unheld-too k unheld = sym (held-same b.builder a.pairs b.pairs same.pairs (eq k) (hash b.builder k)) ∙ unheld

      insertions-alike : (k : K) (granted : Bool) → holds eq a.pairs k ≡ false
          → insert_cost limit eq hash a k granted ≡ insert_cost limit eq hash b k granted
      insertions-alike k granted unheld = ap (λ m. insert_cost limit eq hash m k granted) alike
          ∙ insert-same b.is_vec a.pairs b.pairs b.capacity b.builder a b same.pairs k
          granted (and_right (is_vec_after limit moved) (holds eq a.pairs k) unheld)

    pub insertion_history_law : InsertionHistoryLaw V limit eq hash
    insertion_history_law a b k granted a_before a_after b_before b_after same unheld a_costs b_costs = (
      least_work (insert_cost limit eq hash b k granted),
      subst (λ cost. GrewExactlyBy (least_work cost) a_before a_after) (insertions-alike a b same k granted unheld)
          (insertion_exactly eq limit a k granted a_before a_after unheld a_costs),
      insertion_exactly eq limit b k granted b_before b_after (unheld-too a b same k unheld) b_costs,
    )

    pub command_cost_law : CommandCostLaw V limit eq hash
    command_cost_law a b command granted same none = ap (λ m. command_cost limit eq hash m command granted) (alike a b same)
        ∙ cost-same b.is_vec a.pairs b.pairs b.capacity b.builder a b same.pairs command
        granted
        (subst (λ m. finds_in_vector limit eq m command ≡ false) (alike a b same) none)

    pub command_hashes_law : CommandHashesLaw V limit eq hash
    command_hashes_law a b command granted same = ap (λ m. (command_cost limit eq hash m command granted).asked) (alike a b same)
        ∙ hashes-same b.is_vec a.pairs b.pairs b.capacity b.builder a b same.pairs command
        granted

    pub command_buckets_law : CommandBucketsLaw V limit eq hash
    command_buckets_law a b command granted same = ap (λ m. (command_cost limit eq hash m command granted).looked) (alike a b same)
        ∙ buckets-same b.is_vec a.pairs b.pairs b.capacity b.builder a b same.pairs command
        granted

pub ruleset search_laws = (command_cost_law, command_hashes_law, command_buckets_law)

pub ruleset crowding_laws = (crowded_probe_law, crowded_search_law, crowded_insertion_law, crowded_growth_law)
