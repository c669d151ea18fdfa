use Rattle.audit.proofs.Exact.{orders_are_schedules}
use Rattle.audit.proofs.laws.orders.Goals as goal

pub returns : goal.returns
returns c = orders_are_schedules
