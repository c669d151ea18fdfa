use Rattle.std.proofs.Common.{arith}
use Rattle.std.proofs.lemmas.Grind.{common_steps}
use Rattle.drill_picture.proofs.charts.push_edge.Goals as goal

pub loop-bin-preserved : goal.loop-bin-preserved
loop-bin-preserved c = grind (arith, common_steps)
