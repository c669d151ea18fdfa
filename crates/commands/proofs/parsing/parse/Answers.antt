use Rattle.std.proofs.Common.{rules}
use Rattle.commands.proofs.parsing.parse.Goals as goal

pub returns-clause-done : goal.returns-clause-done
returns-clause-done g c = search rules
