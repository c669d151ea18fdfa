use Rattle.std.proofs.Common.{arith}
use Rattle.std.proofs.lemmas.Grind.{common_steps}
use Rattle.node_core.proofs.node.NodeCore.remove.Goals as goal

pub issue-requires-clause-reply : goal.issue-requires-clause-reply
issue-requires-clause-reply c = grind (arith, common_steps)
