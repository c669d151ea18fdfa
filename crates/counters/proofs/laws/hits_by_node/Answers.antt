use Rattle.counters.proofs.CounterJoins.{cells_join, cells_order}
use Rattle.counters.proofs.laws.hits_by_node.Goals as goal

pub returns-clause-order : goal.returns-clause-order
returns-clause-order c = cells_order

pub returns-clause-join : goal.returns-clause-join
returns-clause-join c = cells_join
