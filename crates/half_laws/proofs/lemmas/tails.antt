-- How seldom a search reads many buckets.
use Rattle.half_laws.proofs.Common.{ℕ, arith, map, is_some, common_steps, keys_of, buckets_of, InHalfFullTables, InTables}
use Rattle.half_mean.specs.Tail.{LongProbesAreRare, LongTablesAreRare}
use Rattle.half_mean.proofs.lemmas.TailLaws.{half_full_probes, capacity_probes, half_full_tables, capacity_tables}
use Rattle.half_mean.proofs.lemmas.TailLaws.{reach-longest}
use Rattle.half_laws.specs.TailLaws.{LongMissesAreRare, MostReadsLaw, LongSearchesAreRare}
use Rattle.half_laws.proofs.lemmas.means.{in_half_full_tables, in_tables}
use Rattle.half_laws.proofs.lemmas.searches.{looks_most}

pub half_full_misses : InHalfFullTables (LongMissesAreRare 4)
half_full_misses = in_half_full_tables (LongProbesAreRare 4) half_full_probes

pub capacity_misses : InTables (LongMissesAreRare 20)
capacity_misses = in_tables (LongProbesAreRare 20) capacity_probes

pub half_full_searches : InHalfFullTables (LongSearchesAreRare 4)
half_full_searches = in_half_full_tables (LongTablesAreRare 4) half_full_tables

pub capacity_searches : InTables (LongSearchesAreRare 20)
capacity_searches = in_tables (LongTablesAreRare 20) capacity_tables

pub most_reads_law : {K : Type 0} (V : Type 0) {S : Type 0} (hash : S → K → ℕ) → MostReadsLaw V hash
most_reads_law V hash m wanted asked found before after table cost =
    let longest = reach-longest (map (hash m.builder) (keys_of m.pairs)) (buckets_of m.capacity) wanted in
    let looked = cost.grew.looked in
    grind (arith, common_steps, is_some, looks_most)
