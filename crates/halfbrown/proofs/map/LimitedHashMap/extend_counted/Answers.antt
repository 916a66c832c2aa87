use Rattle.halfbrown.proofs.Common.{arith, common_steps, Gives}
use Rattle.halfbrown.proofs.lemmas.map.Collect.{extends_of, item_more, item_refused, at_error, yields_more}
use Rattle.halfbrown.proofs.map.LimitedHashMap.extend_counted.Goals as goal

pub loop-key-preserved-in_ok-insert_counted : goal.loop-key-preserved-in_ok-insert_counted
loop-key-preserved-in_ok-insert_counted g c = grind (arith, common_steps, item_more)

pub loop-key-preserved : goal.loop-key-preserved
loop-key-preserved g c = grind (arith, common_steps, item_more)

pub returns-clause-extended : goal.returns-clause-extended
returns-clause-extended g c =
    let so_far = c.loop-key.invariant.so_far in (
      record {
        iterator = c.into_iter-key-iterator.result;
        from_items = c.into_iter-key-iterator.ensures.into_iter_gives;
        gave = c.loop-key.yielded;
        drained = (c.next.new.self, (c.loop-key.key-iterator, c.loop-key.yielded_by, c.in-None.ensures.steps));
        extends = extends_of g.L.Limit.LIMIT g.K.PartialEq.eq g.met.K.Eq.laws c.args.self.now c.loop-key.self c.loop-key.yielded so_far.inserted;
      },
      so_far.spent,
    )

pub returns-in_err-insert_counted-clause-refused : goal.returns-in_err-insert_counted-clause-refused
returns-in_err-insert_counted-clause-refused g c =
    let I = g.I.IntoIter.Iterator.next_gives in
    let it = c.into_iter-key-iterator.result in
    let back = c.in_err-insert_counted.field-0.0 in
    let items = c.loop-key.yielded in
    let k = c.in-Some.key in
    let v = c.in-Some.value in
    let one_more = yields_more I it items c.loop-key.key-iterator (k, v) c.next.new.self c.loop-key.yielded_by c.in-Some.ensures.steps in
    let refused = item_refused g.L.Limit.LIMIT g.K.PartialEq.eq g.S.KeyHasher.hash
    c.args.self.now c.loop-key.self c.insert_counted.new.self items (Gives I it) k v back.why
    c.args.tally.now c.loop-key.tally c.insert_counted.new.tally
    c.loop-key.invariant.so_far (c.next.new.self, one_more) c.in_err-insert_counted.ensures.inserts.returned.unchanged
    c.in_err-insert_counted.ensures.inserts.returned.why c.in_err-insert_counted.ensures.cost.grew in
    (at_error c.from_residual.result back.why (Unit {0}) _ c.from_residual.ensures
    (record { iterator = it; from_items = c.into_iter-key-iterator.ensures.into_iter_gives; insertion = refused.0 }, refused.1)).1
