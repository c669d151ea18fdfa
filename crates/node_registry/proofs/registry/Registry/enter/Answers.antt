use Rattle.std.proofs.Common.{subst, IfErr}
use Rattle.node_calls.specs.Asks.{ask_value_first}
use Rattle.node_registry.specs.Receipts.{IsRefused}
use Rattle.node_registry.proofs.EnteredCells.{same_first}
use Rattle.node_registry.proofs.GivenReceipts.{memory_refused}
use Rattle.node_registry.proofs.registry.Registry.enter.Goals as goal

pub returns-in_err-copy-clause-refused : goal.returns-in_err-copy-clause-refused
returns-in_err-copy-clause-refused g c =
    let config = g.L.Label.config in
    memory_refused config g.L.Label.seed (ask_value_first config.nodes c.args.ask.now) c.from_residual.result
    c.from_residual.ensures.1

pub returns-clause-refused : goal.returns-clause-refused
returns-clause-refused g c =
    let config = g.L.Label.config in
    subst (λ a. IfErr c.enter_owned.result (IsRefused config g.L.Label.seed a))
    (same_first config.nodes c.in_ok-copy.copy c.args.ask.now c.in_ok-copy.ensures.same) c.enter_owned.ensures.refused
