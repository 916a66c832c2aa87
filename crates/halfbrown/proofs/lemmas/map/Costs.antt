-- What was spent at one time and at another is spent in all: what a search for a key spent, and what a granted insertion.
use Rattle.halfbrown.proofs.Common.{◌≡◌, ℕ, ◌+◌, ◌<◌, Bool, true, false, length, arith, ap, sym, subst, IfSome, ◌&&◌, common_steps, keys_of, index_of}
use Rattle.halfbrown.proofs.Common.{Work, TallyGrewBy, add_costs, IsSearchCost, is_full, Prepares, holds, State}
use Rattle.std.proofs.Common.{◌==◌, zero-add, add-zero, add_assoc}
use Rattle.std.proofs.Common.{if◌then◌else◌}
use Rattle.half_store.specs.Work.{asked_more, looked_more}
use Rattle.halfbrown.specs.CostRanges.{Cost, no_cost}
use Rattle.halfbrown.specs.Costs.{IsKeySearchCost, search_asked, switch_asked, capacity_after_switch}
use Rattle.halfbrown.specs.Costs.{IsInsertCost, raw_insert_cost, hit_reads}
use Rattle.halfbrown.specs.Growth.{is_vec_after, capacity_for_new_key}
use Rattle.halfbrown.specs.Insertion.{growth_probe_reads}
use Rattle.halfbrown.proofs.lemmas.pairs.Indices.{found_where_held}
use Rattle.halfbrown.specs.RawEntry.{work_after_adding}

pub none_more : (more : Cost) → more ≡ add_costs no_cost more
none_more more = simp zero-add

pub more_none : (more : Cost) → more ≡ add_costs more no_cost
more_none more = simp add-zero

pub costs_assoc : (a b c : Cost) → add_costs a (add_costs b c) ≡ add_costs (add_costs a b) c
costs_assoc a b c = simp add_assoc

pub spent_none : (w : Work) → TallyGrewBy no_cost w w
spent_none w = grind (arith, common_steps)

pub spent_both : (a b : Cost) (before middle after : Work) → TallyGrewBy a before middle → TallyGrewBy b middle after
    → TallyGrewBy (add_costs a b) before after
spent_both a b before middle after first second = grind (arith, common_steps)

-- a search under what a key writes is one under the key's hash
pub key_costs : {K V S : Type 0} (eq : K → K → Bool) (hash : S → K → ℕ) (m : State K V S) (k : K) (wanted : ℕ) (before after : Work)
    → hash m.builder k ≡ wanted → IsSearchCost hash wanted m (index_of (eq k) (keys_of m.pairs)) (search_asked m.is_vec) before after
    → IsKeySearchCost eq hash m k before after
key_costs eq hash m k wanted before after same costs =
    subst (λ h. IsSearchCost hash h m (index_of (eq k) (keys_of m.pairs)) (search_asked m.is_vec) before after) (sym same) costs

module _ {K V S : Type 0} (limit : ℕ) (eq : K → K → Bool) (hash : S → K → ℕ) (old : State K V S) (k : K)
    (middle : State K V S) (before between after : Work) (form : middle.is_vec ≡ is_vec_after limit old)
    (capacity : middle.capacity ≡ capacity_after_switch limit old)
    (pairs : middle.pairs ≡ old.pairs) (builder : middle.builder ≡ old.builder)
    (spent : between ≡ asked_more (switch_asked limit old) before) (search : IsKeySearchCost eq hash middle k between after) where
  -- what a search in a table read that finds its key
  hit-read : (is_full limit old ≡ false → middle ≡ old) → old.is_vec ≡ false
      → IfSome (index_of (eq k) (keys_of old.pairs)) (λ index. after.looked ≡ before.looked + hit_reads old index)
  hit-read same table =
      let is : middle ≡ old = same (ap (λ v. v && (length old.pairs == limit)) table) in
      grind (arith, common_steps, is, search.hit)

  pub held_costs : (is_full limit old ≡ false → middle ≡ old) → holds eq old.pairs k ≡ true → IsInsertCost limit eq hash old k true before after
  held_costs same held = grind (arith, common_steps, hit-read, found_where_held (eq k) old.pairs)

  pub missing_costs : (wanted : ℕ) → (middle.is_vec ≡ false → wanted ≡ hash middle.builder k) → (final : Work)
      → final ≡ looked_more (growth_probe_reads (hash middle.builder) middle wanted true) after → holds eq old.pairs k ≡ false
      → IsInsertCost limit eq hash old k true before final
  missing_costs wanted own final probed missing = grind (arith, common_steps, found_where_held (eq k) old.pairs)

pub raw_costs : {K V S : Type 0} (limit : ℕ) (eq : K → K → Bool) (hash : S → K → ℕ) (old m : State K V S) (k : K)
    → Prepares limit old (capacity_for_new_key limit old) m → length m.pairs < m.capacity
    → (before between searched after : Work) → between ≡ asked_more (switch_asked limit old) before
    → IsKeySearchCost eq hash m k between searched → after ≡ (if holds eq m.pairs k then searched else work_after_adding hash m k searched)
    → TallyGrewBy (raw_insert_cost limit eq hash old k true) before after
raw_costs limit eq hash old m k prepared left before between searched after spent search is = grind (arith, common_steps)
