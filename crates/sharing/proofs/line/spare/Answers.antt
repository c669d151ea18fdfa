use Rattle.std.proofs.Common.{arith}
use Rattle.std.proofs.lemmas.Grind.{common_steps}
use Rattle.sharing.proofs.line.spare.Goals as goal

pub returns-then-rights-kept : goal.returns-then-rights-kept
returns-then-rights-kept c = grind (arith, common_steps)

pub overflow_sub-rights : goal.overflow_sub-rights
overflow_sub-rights c = grind (arith, common_steps)

pub overflow_cast-result : goal.overflow_cast-result
overflow_cast-result c = grind (arith, common_steps)

pub returns : goal.returns
returns c = grind (arith, common_steps)
