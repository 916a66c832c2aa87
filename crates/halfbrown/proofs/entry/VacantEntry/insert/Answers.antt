use Rattle.halfbrown.proofs.Common.{arith, slice_get, common_steps, same_Some}
use Rattle.std.proofs.Math.Logic.{∥∥₁_elim}
use Rattle.halfbrown.specs.EntryView.{map_with_value}
use Rattle.halfbrown.proofs.lemmas.pairs.Changes.{set_value_at-last, value-last}
use Rattle.halfbrown.proofs.lemmas.map.Find.{vacancy-prop}
use Rattle.halfbrown.proofs.entry.VacantEntry.insert.Goals as goal

pub push-added-requires-clause-vacant : goal.push-added-requires-clause-vacant
push-added-requires-clause-vacant g c =
    let v = c.args.self in
    let m = v.map.now in
    ∥∥₁_elim v.vacant (vacancy-prop m (g.S.KeyHasher.hash m.builder v.key) v.vacancy) (λ known. known)

pub returns : goal.returns
unfolding map_with_value
returns g c = grind (arith, common_steps, same_Some, set_value_at-last, slice_get, value-last)
