use Rattle.std.proofs.Common.{◌≡◌}
use Rattle.half_set.specs.Sets.{same_values}
use Rattle.half_set.proofs.Sets.{same_members, with_nothing-keys_of}
use Rattle.half_set.proofs.hash_set.HashSetPartialEq.eq.Goals as goal

pub returns : goal.returns
returns g c =
    let left = c.self.inside.map.pairs in
    let right = c.other.inside.map.pairs in
    let same : c.eq.result ≡ same_values g.T.PartialEq.eq c.args.self.now c.args.other.now =
    rw (← c.self.view_is, ← c.other.view_is, with_nothing-keys_of left, with_nothing-keys_of right) c.eq.ensures in
    record { same = same; members = rw same (same_members g.met.T.Eq.laws c.args.self.now c.args.other.now) }
