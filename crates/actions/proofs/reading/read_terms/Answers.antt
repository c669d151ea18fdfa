use Rattle.std.proofs.Common.{refl, arith}
use Rattle.std.proofs.lemmas.Grind.{common_steps}
use Rattle.actions.specs.Reading.{reading}
use Rattle.actions.proofs.reading.read_terms.Goals as goal

pub returns-then-text-gt-MAX_TEXT-clause-long : goal.returns-then-text-gt-MAX_TEXT-clause-long
returns-then-text-gt-MAX_TEXT-clause-long c = λ _. refl

pub returns-clause-exact : goal.returns-clause-exact
unfolding reading
returns-clause-exact c = grind (arith, common_steps)
