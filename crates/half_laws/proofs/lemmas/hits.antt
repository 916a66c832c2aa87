-- What searches read that find their keys.
use Rattle.half_laws.proofs.Common.{◌≡◌, ℕ, ◌+◌, ◌<◌, Bool, false, List, length, map, IfSome, sym, ◌∙◌, subst, arith}
use Rattle.half_laws.proofs.Common.{length-keys_of, keys_of, buckets_of, four-le_count, hit_reads, filling_reads, State}
use Rattle.half_laws.proofs.Common.{IsValid, InHalfFullTables, InTables}
use Rattle.std.proofs.lemmas.List.Sorted.{sum_by-IsPermutation, length_permutation, IsPermutation-map}
use Rattle.std.proofs.Math.ListN.{length-map}
use Rattle.half_store.specs.Table.{all_hit_reads_in}
use Rattle.half_store.proofs.lemmas.table.Counts.{tick}
use Rattle.half_store.proofs.lemmas.table.Filled.{IsTableOf, slots_with, table_of, filled}
use Rattle.half_store.proofs.lemmas.table.Hits.{same_reads}
use Rattle.half_mean.specs.Mean.{total_filling, MeanFillingIsAtMost}
use Rattle.half_mean.proofs.lemmas.Filling.{filling_capacity_law, filling_half_full_law}
use Rattle.half_laws.specs.HitLaws.{HitLaw, HitTotalLaw, HitHistoryLaw, FillingOrderLaw, MeanHitIsAtMost}
use Rattle.half_laws.specs.MapLaws.{HoldSamePairs}
use Rattle.half_laws.proofs.lemmas.means.{table_count, in_half_full_tables, in_tables}

pub filling_order : FillingOrderLaw
filling_order m some others few p =
    let long : length others ≡ length some = length_permutation some others p in
    let s = table_of m some (omega arith) in
    let o = table_of m others (omega arith) in
    let moved : IsTableOf m some (slots_with m others) = record {
      long = o.long;
      ordered = o.ordered;
      counted = λ test. sym (sum_by-IsPermutation (λ x. tick (test x)) some others p) ∙ o.counted test;
    } in
    sym (filled m some (omega arith)) ∙ same_reads m some (slots_with m some) (slots_with m others) s moved few
    ∙ filled m others (omega arith)

module _ {K : Type 0} (V : Type 0) {S : Type 0} (hash : S → K → ℕ) where
  pub hit_law : HitLaw V hash
  hit_law m test wanted asked index before after table found cost =
      subst (λ o. IfSome o (λ at. after.looked ≡ before.looked + hit_reads m at)) found (cost.hit table)

  pub hit_total_law : HitTotalLaw V hash
  unfolding all_hit_reads_in
  hit_total_law m wanted asked found before after table cost = cost.hits table

  -- fillings with the same pairs in another order
  filling-same : (limit : ℕ) (eq : K → K → Bool) (a b : State K V S) → HoldSamePairs a b → IsValid limit eq a → a.is_vec ≡ false
      → filling_reads (hash a.builder) a.capacity a.pairs ≡ filling_reads (hash b.builder) b.capacity b.pairs
  filling-same limit eq a b same is table =
      let hashes : List ℕ = map (hash a.builder) (keys_of a.pairs) in
      let count = table_count a.capacity (is.table_capacity table) in
      let four = four-le_count (buckets_of a.capacity) count.0 (let some = is.table_exceeds table in omega arith) in
      let fits = is.fits in
      let few : length hashes < buckets_of a.capacity =
      omega (arith, length-map (keys_of a.pairs) (hash a.builder), length-keys_of a.pairs, count.1) in
      filling_order (buckets_of a.capacity) hashes (map (hash a.builder) (keys_of b.pairs)) few
      (IsPermutation-map (hash a.builder) (keys_of a.pairs) (keys_of b.pairs) (IsPermutation-map (λ (e : K × V). e.0) a.pairs b.pairs same.pairs))
      ∙ (λ i. filling_reads (hash (same.builder i)) (same.capacity i) b.pairs)

  pub hit_history_law : (limit : ℕ) (eq : K → K → Bool) → HitHistoryLaw V limit eq hash
  unfolding all_hit_reads_in
  hit_history_law limit eq a b wanted asked wanted' asked' found found' before after before' after' same is table cost cost' =
      cost.hits table ∙ filling-same limit eq a b same is table ∙ sym (cost'.hits (sym same.form ∙ table))

pub half_full_hit_law : InHalfFullTables (MeanHitIsAtMost 3 2)
unfolding total_filling
half_full_hit_law = in_half_full_tables (λ hashes m n. MeanFillingIsAtMost hashes m n 3 2) filling_half_full_law

pub capacity_hit_law : InTables (MeanHitIsAtMost 5 2)
unfolding total_filling
capacity_hit_law = in_tables (λ hashes m n. MeanFillingIsAtMost hashes m n 5 2) filling_capacity_law
