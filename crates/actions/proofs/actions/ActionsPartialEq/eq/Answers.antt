use Rattle.std.proofs.Common.{rules}
use Rattle.actions.proofs.actions.ActionsPartialEq.eq.Goals as goal

pub returns : goal.returns
returns c = search rules
