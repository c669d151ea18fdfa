use Rattle.std.proofs.Common.{arith}
use Rattle.std.proofs.lemmas.Grind.{common_steps}
use Rattle.node_core.proofs.node.NodeCore.emit_checked.Goals as goal

pub returns-then-to-self-clause-refused : goal.returns-then-to-self-clause-refused
returns-then-to-self-clause-refused c = grind (arith, common_steps)
