use Rattle.std.proofs.Common.{rules, Vec, Global}
use Rattle.halfbrown.proofs.callers.Keys.{grouped_step}
use Rattle.half_callers.proofs.counting.group.Goals as goal

pub loop-key-preserved : goal.loop-key-preserved
loop-key-preserved g c =
    let put = c.in_ok-groups.ensures.makes.writes.put c.push.new.self in
    let step = grouped_step {V = Vec _ Global} g.met.K.Eq.laws (λ values. values.items) _ _ c.loop-key-item.result.1
    c.new.result c.loop-key.invariant put (search rules) (search rules) (search rules) (rw c.in_ok-push.ensures.items (search rules)) in
    search rules
