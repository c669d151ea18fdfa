use Rattle.std.proofs.Common.{rules}
use Rattle.actions.proofs.fault.ActionFaultDisplay.fmt.Goals as goal

pub returns-in-BadByte-clause-writes : goal.returns-in-BadByte-clause-writes
returns-in-BadByte-clause-writes g c = search rules
