use Rattle.std.proofs.Common.{arith, ap, ◌∙◌}
use Rattle.std.proofs.lemmas.Grind.{common_steps}
use Rattle.std.specs.Map.{keys_of}
use Rattle.halfbrown.proofs.lemmas.map.Iter.{gives_in_order}
use Rattle.half_set.proofs.hash_set.HashSetIntoIterator.into_iter.Goals as goal

pub returns : goal.returns
returns g c =
    let given = c.into_iter.ensures.into_iter_gives in
    record {
      into_iter_gives = (
        ap keys_of given.0 ∙ c.self.view_is,
        rw (← c.self.view_is) (grind (arith, common_steps, given.1)),
        gives_in_order,
      );
    }
