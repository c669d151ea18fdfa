use Rattle.std.proofs.Common.{arith}
use Rattle.std.proofs.lemmas.Grind.{common_steps}
use Rattle.drill_picture.proofs.counted.add_points.Goals as goal

pub loop-name-preserved : goal.loop-name-preserved
loop-name-preserved c = grind (arith, common_steps)

pub loop-name-init : goal.loop-name-init
loop-name-init c = grind (arith, common_steps)

pub returns : goal.returns
returns c = grind (arith, common_steps)
