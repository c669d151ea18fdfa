use Rattle.std.proofs.Common.{arith}
use Rattle.std.proofs.lemmas.Grind.{common_steps}
use Rattle.stamp_register.proofs.key.Key.next.Goals as goal

pub returns-clause-above : goal.returns-clause-above
returns-clause-above c = grind (arith, common_steps)
