use Rattle.std.proofs.Common.{rules}
use Rattle.actions.proofs.choice.is_triggered.Goals as goal

pub returns-else-is_none : goal.returns-else-is_none
returns-else-is_none c = search rules
