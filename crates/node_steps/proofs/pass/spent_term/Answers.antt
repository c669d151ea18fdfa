use Rattle.std.proofs.Common.{arith}
use Rattle.std.proofs.lemmas.Grind.{common_steps}
use Rattle.node_steps.proofs.pass.spent_term.Goals as goal

pub returns-in-Some-count-clause-value : goal.returns-in-Some-count-clause-value
returns-in-Some-count-clause-value c = grind (arith, common_steps)
