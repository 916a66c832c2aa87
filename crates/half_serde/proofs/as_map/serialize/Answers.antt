use Rattle.std.proofs.Common.{Some, subst}
use Rattle.std.proofs.lemmas.Result.{on_ok_weaker}
use Rattle.serde.specs.Event.{Logs, map_begins, WritesEntry}
use Rattle.serde.proofs.Events.{WritesUpTo-start, WritesUpTo-more, WritesUpTo-all}
use Rattle.half_serde.proofs.as_map.serialize.Goals as goal

pub loop-key-init : goal.loop-key-init
loop-key-init g c = WritesUpTo-start (WritesEntry g.K.Described.writes g.V.Described.writes) _ _ _ c.into_iter-key-iterator.ensures.into_iter_gives.0

pub loop-key-preserved : goal.loop-key-preserved
loop-key-preserved g c = WritesUpTo-more (WritesEntry g.K.Described.writes g.V.Described.writes) _ _ _ (c.in-Some.key.now, c.in-Some.value.now) _ _ _ c.loop-key.invariant
    c.in-Some.ensures.steps c.in_ok-write_entry.ensures

pub returns : goal.returns
returns g c =
    let begun = subst (λ n. Logs (g.S.Serializer.written c.args.out.now) (g.S.Serializer.written c.begin_map.new.self) (map_begins (Some n))) c.len.ensures.len c.in_ok-begin_map.ensures in
    let each = WritesUpTo-all (WritesEntry g.K.Described.writes g.V.Described.writes) _ _ _ _ c.loop-key.invariant c.in-None.ensures.steps.0 in
    on_ok_weaker c.end_map.result (λ ended. (_, _, begun, each, ended)) c.end_map.ensures
