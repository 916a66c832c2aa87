use Rattle.std.proofs.Common.{rules}
use Rattle.half_set.proofs.Sets.{callable_each, retains_values}
use Rattle.half_set.proofs.hash_set.HashSet.retain.Goals as goal

pub retain-requires : goal.retain-requires
retain-requires g c =
    callable_each g.F.FnMut (λ s. s.0) _
    (λ s x v b w t call. record { shown = call.key; shows = call.shows.0; called = search rules }) _
    (λ s x v always p q at_key at_value. always) _ _ c.requires

pub returns : goal.returns
returns g c =
    rw (← c.self.view_is)
    (retains_values g.F.FnMut (λ s. s.0) _
    (λ s x v b w t call. record { shown = call.key; shows = call.shows.0; called = search rules }) _ _ _ c.retain.ensures.kept)
