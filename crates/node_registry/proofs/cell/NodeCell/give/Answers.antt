use Rattle.node_registry.proofs.EnteredCells.{given_stays}
use Rattle.node_registry.proofs.cell.NodeCell.give.Goals as goal

pub invariant_of-self : goal.invariant_of-self
invariant_of-self c =
    given_stays c.self.inside.core c.give.new.self c.self.inside.generator c.give.ensures.calls c.self.invariant
