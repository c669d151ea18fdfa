use Rattle.std.proofs.Common.{arith}
use Rattle.std.proofs.lemmas.Grind.{common_steps}
use Rattle.node_registry.proofs.guarded.Guarded.enter_owned.Goals as goal

pub returns-clause-asked : goal.returns-clause-asked
returns-clause-asked g c = c.in_ok-entry.ensures.asked

pub returns-clause-ok : goal.returns-clause-ok
returns-clause-ok g c = rw (← c.self.view_is) c.in_ok-entry.ensures.ok

pub returns-clause-receipt : goal.returns-clause-receipt
returns-clause-receipt g c = grind (arith, common_steps)
