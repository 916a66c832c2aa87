use Rattle.halfbrown.proofs.Common.{Some, subst, state_in, State}
use Rattle.halfbrown.specs.Updates.{ShiftRemovesAt}
use Rattle.halfbrown.proofs.lemmas.map.Remove.{kept_shifted, shift_removed}
use Rattle.halfbrown.proofs.map.LimitedHashMap.shift_take_at.Goals as goal

pub invariant_of-self : goal.invariant_of-self
invariant_of-self g c =
    kept_shifted _ _ g.met.K.Eq.laws _ c.self.inside.builder _ _ c.self.invariant c.args.found.index c.shift_take_at.result c.shift_take_at.ensures

pub returns : goal.returns
returns g c =
    let builder = c.self.inside.builder in
    subst (λ (m : State g.row.K.Denot g.row.V.Denot g.row.S.Denot). ShiftRemovesAt g.L.Limit.LIMIT g.K.PartialEq.eq m c.args.found.index
    (Some c.shift_take_at.result) (state_in c.shift_take_at.new.self builder)) c.self.view_is
    (shift_removed _ _ g.met.K.Eq.laws _ builder _ _ c.self.invariant c.args.found.index c.shift_take_at.result c.shift_take_at.ensures)
