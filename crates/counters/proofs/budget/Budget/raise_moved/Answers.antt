use Rattle.std.proofs.Common.{rules}
use Rattle.counters.proofs.budget.Budget.raise_moved.Goals as goal

pub returns-clause-ok : goal.returns-clause-ok
returns-clause-ok c = search rules
