use Rattle.std.proofs.Common.{arith}
use Rattle.std.proofs.lemmas.Grind.{common_steps}
use Rattle.actions.proofs.name.is_name_text.Goals as goal

pub returns-then-text-le-MAX_NAME : goal.returns-then-text-le-MAX_NAME
returns-then-text-le-MAX_NAME c = grind (arith, common_steps)
