use Rattle.halfbrown.proofs.Common.{◌≡◌, arith, [], sym, subst, common_steps, into_iter_items, Step}
use Rattle.std.proofs.lemmas.List.{nil_from_length}
use Rattle.halfbrown.proofs.lemmas.run.Runs.{RunSoFar, no_step, step_more, run_ended, run_pays_two, table_stays}
use Rattle.halfbrown.proofs.lemmas.run.Steps.{switch_left_most}
use Rattle.halfbrown.proofs.run.run_counted.Goals as goal

pub loop-command-init : goal.loop-command-init
loop-command-init g c =
    let map = c.args.map.now in
    let tally = c.args.tally.now in
    let commands = c.args.commands.items in
    let hash = g.S.KeyHasher.hash in
    let So = RunSoFar g.L.Limit.LIMIT g.K.PartialEq.eq hash map commands tally in
    record {
      so_far = subst (λ rs. So map (into_iter_items c.into_iter-left.result) rs tally) (sym c.in-Ok.ensures.items)
          (subst (λ cs. So map cs [] tally) (sym c.into_iter-left.ensures.rest)
          (no_step g.L.Limit.LIMIT g.K.PartialEq.eq hash map commands tally));
      capacity = omega (arith, c.in-Ok.ensures.len, c.in-Ok.ensures.capacity, c.len.ensures, c.into_iter-left.ensures.len);
      exact = omega (arith, c.in-Ok.ensures.exact, c.len.ensures, c.args.commands.ok.0);
    }

pub loop-command-preserved : goal.loop-command-preserved
loop-command-preserved g c =
    let old = c.args.map.now in
    let commands = c.args.commands.items in
    let before = c.args.tally.now in
    let hash = g.S.KeyHasher.hash in
    let So = RunSoFar g.L.Limit.LIMIT g.K.PartialEq.eq hash old commands before in
    let left = into_iter_items c.next.new.self in
    let replies = c.loop-command.replies.items in
    let s : Step _ _ _ =
    record { before = c.loop-command.map; command = c.in-Some.command; reply = c.step.result; after = c.step.new.map } in
    let so_far =
    subst (λ cs. So c.loop-command.map cs replies c.loop-command.tally) c.in-Some.ensures.items c.loop-command.invariant.so_far in
    record {
      so_far = subst (λ rs. So c.step.new.map left rs c.step.new.tally) (sym c.push_reserved.ensures.items)
          (step_more g.L.Limit.LIMIT g.K.PartialEq.eq hash old commands before s left replies c.loop-command.tally c.step.new.tally
          so_far c.step.ensures.step c.len-in-Some.ensures.valid c.step.ensures.cost);
      capacity = omega (
        arith,
        c.loop-command.invariant.capacity,
        c.push_reserved.ensures.len,
        c.push_reserved.ensures.capacity,
        c.in-Some.ensures.len,
      );
      exact = omega (arith, c.loop-command.invariant.exact, c.push_reserved.ensures.capacity);
    }

pub returns-clause-run : goal.returns-clause-run
returns-clause-run g c =
    let none : into_iter_items c.loop-command.left ≡ [] = grind (arith, common_steps, nil_from_length) in
    run_ended g.L.Limit.LIMIT g.K.PartialEq.eq g.S.KeyHasher.hash c.args.map.now c.args.commands.items c.args.tally.now c.loop-command.map
    (into_iter_items c.loop-command.left) c.loop-command.replies.items c.loop-command.tally none c.loop-command.invariant.so_far

pub returns-clause-stays_a_table : goal.returns-clause-stays_a_table
returns-clause-stays_a_table g c none =
    let run = returns-clause-run g c in
    table_stays _ _ _ _ _
    (run_pays_two g.L.Limit.LIMIT g.K.PartialEq.eq g.S.KeyHasher.hash _ _ _ _ run.0 none)

pub returns-clause-nothing_hashed : goal.returns-clause-nothing_hashed
returns-clause-nothing_hashed g c none form =
    let run = returns-clause-run g c in
    let pays =
    run_pays_two g.L.Limit.LIMIT g.K.PartialEq.eq g.S.KeyHasher.hash _ _ _ _ run.0 none in
    omega (arith, run.1.asked, (pays.vector form).1)

pub returns-clause-hashes : goal.returns-clause-hashes
returns-clause-hashes g c none =
    let run = returns-clause-run g c in
    let pays =
    run_pays_two g.L.Limit.LIMIT g.K.PartialEq.eq g.S.KeyHasher.hash _ _ _ _ run.0 none in
    omega (arith, run.1.asked, pays.all, switch_left_most g.L.Limit.LIMIT c.args.map.now.is_vec)
