use Rattle.std.proofs.Common.{rules}
use Rattle.counters.proofs.fault.CounterFaultDisplay.fmt.Goals as goal

pub returns-in-ZeroAmount-clause-writes : goal.returns-in-ZeroAmount-clause-writes
returns-in-ZeroAmount-clause-writes g c = search rules
