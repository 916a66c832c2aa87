use Rattle.std.proofs.Common.{◌<◌, length, sym, ◌∙◌, arith}
use Rattle.std.proofs.lemmas.Grind.{common_steps}
use Rattle.half_uses.proofs.Recency.{out_absent, out_held, out_len, put_back}
use Rattle.half_uses.proofs.bounded_cache.BoundedCache.refresh.Goals as goal

pub insert_within-requires-clause-new : goal.insert_within-requires-clause-new
insert_within-requires-clause-new g c =
    out_absent (sym c.shift_remove_entry.ensures.returned ∙ c.in-Some.is) c.shift_remove_entry.ensures.removed

pub insert_within-requires-clause-room : goal.insert_within-requires-clause-room
insert_within-requires-clause-room g c =
    let len = out_len (sym c.shift_remove_entry.ensures.returned ∙ c.in-Some.is) c.shift_remove_entry.ensures.removed in
    omega (arith, len, c.args.self.now.within, c.args.self.now.room, c.shift_remove_entry.ensures.after.capacity)

pub invariant_of-self-clause-within : goal.invariant_of-self-clause-within
invariant_of-self-clause-within g c =
    let len = out_len (sym c.shift_remove_entry.ensures.returned ∙ c.in-Some.is) c.shift_remove_entry.ensures.removed in
    omega (arith, len, c.args.self.now.within, c.insert_within.ensures.len)

pub returns-in-Some-clause-held : goal.returns-in-Some-clause-held
returns-in-Some-clause-held g c =
    sym (out_held (sym c.shift_remove_entry.ensures.returned ∙ c.in-Some.is) c.shift_remove_entry.ensures.removed)

pub returns-in-Some-clause-values : goal.returns-in-Some-clause-values
returns-in-Some-clause-values g c =
    put_back (sym c.shift_remove_entry.ensures.returned ∙ c.in-Some.is) c.shift_remove_entry.ensures.removed
    g.met.K.Eq.laws (g.met.Q.Equivalent.stands_for_equals c.args.key) c.insert_within.ensures.put

pub invariant_of-self-clause-vector : goal.invariant_of-self-clause-vector
invariant_of-self-clause-vector g c small =
    let len = out_len (sym c.shift_remove_entry.ensures.returned ∙ c.in-Some.is) c.shift_remove_entry.ensures.removed in
    let few : length c.shift_remove_entry.new.self.pairs < 32 = omega (arith, len, c.args.self.now.within, small) in
    grind (arith, common_steps, c.insert_within.ensures.form few, c.shift_remove_entry.ensures.after.form, c.args.self.now.vector small)
