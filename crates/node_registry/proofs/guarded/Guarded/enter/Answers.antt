use Rattle.std.proofs.Common.{subst, IfErr}
use Rattle.node_registry.specs.Cells.{IsRefusedBy}
use Rattle.node_registry.proofs.EnteredCells.{same_first}
use Rattle.node_registry.proofs.guarded.Guarded.enter.Goals as goal

pub returns-clause-refused : goal.returns-clause-refused
returns-clause-refused g c =
    let cell = c.args.self.now in
    subst (λ a. IfErr c.enter_owned.result (IsRefusedBy cell a))
    (same_first cell.node.config.nodes c.in_ok-copy.copy c.args.ask.now c.in_ok-copy.ensures.same)
    c.enter_owned.ensures.refused
