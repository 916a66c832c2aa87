use Rattle.halfmap.proofs.Common.{Some, None, inl, inr, refl, Decides-eqb, strip_suffix_is}
use Rattle.halfmap.proofs.session.without.Goals as goal

pub returns-in-Some : goal.returns-in-Some
returns-in-Some c = inl (strip_suffix_is Decides-eqb c.args.text.now c.args.end.now (Some c.in-Some.front) c.in-Some.ensures.cases)

pub returns-in-None : goal.returns-in-None
returns-in-None c = inr (refl, strip_suffix_is Decides-eqb c.args.text.now c.args.end.now None c.in-None.ensures.cases)
