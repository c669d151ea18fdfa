use Rattle.std.proofs.Common.{arith, sym}
use Rattle.counters.proofs.Columns.{has-right}
use Rattle.counters.proofs.budget.Budget.has_right.Goals as goal

pub returns-else-node-setter : goal.returns-else-node-setter
returns-else-node-setter c =
    rw (← c.self.view_is)
    (has-right c.self.inside.ledger c.args.setter c.args.count c.args.node c.is_short.result (omega arith)
    c.if-node-setter.false (sym c.is_short.ensures))
