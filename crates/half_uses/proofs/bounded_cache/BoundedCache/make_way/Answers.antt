use Rattle.std.proofs.Common.{◌-◌, length, sym, ap, ◌∙◌, arith}
use Rattle.half_uses.proofs.Recency.{newest_all, out_len, way_of_held}
use Rattle.half_uses.proofs.bounded_cache.BoundedCache.make_way.Goals as goal

pub returns-in-Some-clause-way : goal.returns-in-Some-clause-way
returns-in-Some-clause-way g c =
    way_of_held g.K.PartialEq.eq c.args.self.now.bound _ c.args.key.now _ (sym c.shift_remove_entry.ensures.returned ∙ c.in-Some.is)

pub returns-in-Some-clause-left : goal.returns-in-Some-clause-left
returns-in-Some-clause-left g c =
    let len = out_len (sym c.shift_remove_entry.ensures.returned ∙ c.in-Some.is) c.shift_remove_entry.ensures.removed in
    c.shift_remove_entry.ensures.after.pairs
    ∙ sym (newest_all (c.args.self.now.bound - 1) _
    (omega (arith, len, c.args.self.now.within, ap length c.shift_remove_entry.ensures.after.pairs)))

pub returns-in-Some-clause-room : goal.returns-in-Some-clause-room
returns-in-Some-clause-room g c =
    let len = out_len (sym c.shift_remove_entry.ensures.returned ∙ c.in-Some.is) c.shift_remove_entry.ensures.removed in
    omega (arith, len, c.args.self.now.within)

pub returns-in-None-2-clause-left : goal.returns-in-None-2-clause-left
returns-in-None-2-clause-left g c =
    c.shift_remove_entry.ensures.after.pairs
    ∙ sym (newest_all (c.args.self.now.bound - 1) _ (omega (
      arith,
      c.if-len-self.false,
      c.len.ensures.len,
      c.args.self.now.within,
      c.args.self.now.some,
      ap (λ m. length m.pairs) (c.in-None.ensures.unchanged),
      ap length c.shift_remove_entry.ensures.after.pairs,
    )))
