use Rattle.std.proofs.Common.{◌≡◌, ℕ, ◌+◌, [], ◌∷◌, refl, ap, ◌∙◌}
use Rattle.half_store.specs.Reach.{probe_distance, bucket_after, load, loaded_within, loaded_run, reach}
use Rattle.half_mean.specs.Mean.{sum_below, knuth_sum, total_reach, total_filling}
use Rattle.half_mean.specs.Tail.{long_probes, long_tables}
use Rattle.half_mean.proofs.totals_of_small_tables.Goals as goal

-- what probes for all hashes read in the table of 8 buckets that holds this one
abbrev reads : ℕ → ℕ
reads held = sum_below 8 (λ hash. reach (held ∷ []) 8 hash)

lower : sum_below 4 reads ≡ 36
unfolding reach loaded_run loaded_within load probe_distance bucket_after
lower = refl

upper : reads 7 + (reads 6 + (reads 5 + (reads 4 + 36))) ≡ 72
unfolding reach loaded_run loaded_within load probe_distance bucket_after
upper = refl

pub returns : goal.returns
unfolding total_reach total_filling long_probes long_tables knuth_sum reach loaded_run loaded_within load probe_distance bucket_after
returns c = record {
  two_of_four = refl;
  three_of_four = refl;
  one_of_eight = ap (λ others. reads 7 + (reads 6 + (reads 5 + (reads 4 + others)))) lower ∙ upper;
  filled = refl;
  long = refl;
  longest = refl;
  knuths_sum = refl;
}
