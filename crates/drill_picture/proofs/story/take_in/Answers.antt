use Rattle.std.proofs.Common.{arith}
use Rattle.std.proofs.lemmas.Grind.{common_steps}
use Rattle.drill_picture.proofs.story.take_in.Goals as goal

pub loop-parcel-preserved : goal.loop-parcel-preserved
loop-parcel-preserved c = record { row = grind (arith, common_steps); left = grind (arith, common_steps) }

pub returns-clause-row : goal.returns-clause-row
returns-clause-row c = grind (arith, common_steps)

pub returns-clause-left : goal.returns-clause-left
returns-clause-left c = grind (arith, common_steps)
