use Rattle.std.proofs.Common.{◌∷◌, ◌^◌, ◌<◌, arith, refl, rules}
use Rattle.std.proofs.lemmas.List.Elements.{All-contains, Contains-append_right}
use Rattle.std.proofs.lemmas.Map.Made.{map_same_pairs}
use Rattle.half_callers.proofs.retained.double_all.Goals as goal

pub retain-requires : goal.retain-requires
retain-requires g c = record {
  at = λ before after f k v split steps p q at_key at_value.
      let stands = Contains-append_right before ((k, v) ∷ after) (k, v) (0, omega arith, refl) in
      let small = All-contains (λ pair. pair.1 < 2 ^ 63) c.args.prices.now.pairs (k, v) c.requires.small (rw split stands) in
      search (rules, small);
}

pub returns-clause-doubled : goal.returns-clause-doubled
returns-clause-doubled g c = map_same_pairs _ _ _ (λ k v b w f call. search rules) _ _ c.retain.ensures.kept
