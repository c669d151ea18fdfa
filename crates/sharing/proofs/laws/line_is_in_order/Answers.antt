use Rattle.sharing.proofs.Due.{line_has_all, line_in_order}
use Rattle.sharing.proofs.laws.line_is_in_order.Goals as goal

pub returns : goal.returns
returns c = λ executions nodes. (line_has_all executions nodes, line_in_order executions nodes)
