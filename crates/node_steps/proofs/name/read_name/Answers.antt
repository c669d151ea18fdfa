use Rattle.std.proofs.Common.{arith}
use Rattle.std.proofs.lemmas.Grind.{common_steps}
use Rattle.node_steps.proofs.name.read_name.Goals as goal

pub returns-in-Err-BadName-clause-bad : goal.returns-in-Err-BadName-clause-bad
returns-in-Err-BadName-clause-bad c = grind (arith, common_steps)

pub returns-in-Err-BadName-clause-memory : goal.returns-in-Err-BadName-clause-memory
returns-in-Err-BadName-clause-memory c = grind (arith, common_steps)
