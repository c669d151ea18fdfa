use Rattle.std.proofs.Common.{arith}
use Rattle.std.proofs.lemmas.Grind.{common_steps}
use Rattle.sharing.proofs.line.push_shares.Goals as goal

pub loop-to-preserved : goal.loop-to-preserved
loop-to-preserved c = grind (arith, common_steps)

pub returns : goal.returns
returns c = grind (arith, common_steps)
