use Rattle.std.proofs.Common.{arith}
use Rattle.std.proofs.lemmas.Grind.{common_steps}
use Rattle.node_core.proofs.node.NodeCore.call.Goals as goal

pub call_with-requires : goal.call_with-requires
call_with-requires c = grind (arith, common_steps)
