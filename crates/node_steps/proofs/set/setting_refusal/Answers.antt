use Rattle.std.proofs.Common.{arith}
use Rattle.std.proofs.lemmas.Grind.{common_steps}
use Rattle.node_steps.proofs.set.setting_refusal.Goals as goal

pub returns-clause-name : goal.returns-clause-name
returns-clause-name c = grind (arith, common_steps)
