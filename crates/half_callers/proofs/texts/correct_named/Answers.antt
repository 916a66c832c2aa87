use Rattle.std.proofs.Common.{arith}
use Rattle.std.proofs.lemmas.Grind.{common_steps}
use Rattle.halfbrown.proofs.callers.Texts.{lookup_set_text}
use Rattle.half_callers.proofs.texts.correct_named.Goals as goal

pub returns-clause-others : goal.returns-clause-others
returns-clause-others c other apart = grind (arith, common_steps, lookup_set_text c.args.name.now c.args.ages.now.pairs c.args.age other)
