use Rattle.std.proofs.Common.{arith}
use Rattle.std.proofs.lemmas.Grind.{common_steps}
use Rattle.drills.proofs.line.line_of.Goals as goal

pub returns-in_default : goal.returns-in_default
returns-in_default c = grind (arith, common_steps)

pub returns-in_ok-receipt_in-in-5 : goal.returns-in_ok-receipt_in-in-5
returns-in_ok-receipt_in-in-5 c = grind (arith, common_steps)

pub returns-in_ok-told_in-in-3 : goal.returns-in_ok-told_in-in-3
returns-in_ok-told_in-in-3 c = grind (arith, common_steps)

pub returns-in-1 : goal.returns-in-1
returns-in-1 c = grind (arith, common_steps)

pub returns-in-2 : goal.returns-in-2
returns-in-2 c = grind (arith, common_steps)

pub returns-in_ok-part_head_of-in-6 : goal.returns-in_ok-part_head_of-in-6
returns-in_ok-part_head_of-in-6 c = grind (arith, common_steps)
