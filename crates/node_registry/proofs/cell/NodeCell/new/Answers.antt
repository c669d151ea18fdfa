use Rattle.node_registry.proofs.EnteredCells.{has_small_cap, new_kept}
use Rattle.node_registry.proofs.cell.NodeCell.new.Goals as goal

pub invariant_of-result : goal.invariant_of-result
invariant_of-result c =
    new_kept c.args.config c.args.seed c.in_ok-core.core c.new-generator.result c.from.result
    (has_small_cap c.args.config c.in_ok-core.ensures.good) c.in_ok-core.ensures.ok c.from.ensures
    c.new-generator.ensures
