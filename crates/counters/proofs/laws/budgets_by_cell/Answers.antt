use Rattle.counters.proofs.CounterJoins.{shares_join, shares_order}
use Rattle.counters.proofs.laws.budgets_by_cell.Goals as goal

pub returns-clause-order : goal.returns-clause-order
returns-clause-order c = shares_order

pub returns-clause-join : goal.returns-clause-join
returns-clause-join c = shares_join
