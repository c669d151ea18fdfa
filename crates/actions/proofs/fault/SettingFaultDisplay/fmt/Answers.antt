use Rattle.std.proofs.Common.{rules}
use Rattle.actions.proofs.fault.SettingFaultDisplay.fmt.Goals as goal

pub returns-in-BadActions-clause-writes : goal.returns-in-BadActions-clause-writes
returns-in-BadActions-clause-writes g c = search rules
