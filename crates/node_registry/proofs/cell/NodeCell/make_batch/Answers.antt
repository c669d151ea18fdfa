use Rattle.std.proofs.Common.{refl}
use Rattle.node_registry.proofs.AcceptedBatches.{accepted_stays}
use Rattle.node_registry.proofs.cell.NodeCell.make_batch.Goals as goal

pub invariant_of-self : goal.invariant_of-self
invariant_of-self g c =
    let made = c.make.ensures.goes_on in
    accepted_stays c.self.inside.core c.self.inside.generator made.0 c.make.new.node made.1 c.self.invariant

pub returns-clause-entered : goal.returns-clause-entered
returns-clause-entered g c =
    let made = c.make.ensures.goes_on in
    rw (← c.self.view_is) (made.0, (made.1, refl, refl))
