use Rattle.std.proofs.Common.{refl}
use Rattle.node_calls.specs.declared.ask.Ask.TheVariants as calls
use Rattle.node_calls.specs.Asks.{ask_value_first, bare_emit, emit_asked}
use Rattle.node_registry.proofs.GivenReceipts.{receipt_is_by, refused_as}
use Rattle.node_registry.proofs.registry.Registry.emit.Goals as goal

pub returns-clause-receipt : goal.returns-clause-receipt
returns-clause-receipt g c =
    let config = g.L.Label.config in
    receipt_is_by config (calls.Emit c.args.to) (λ reply. emit_asked config.nodes c.args.to reply) (λ reply. refl)
    c.enter_owned.result c.enter_owned.ensures.node c.enter_owned.ensures.asked

pub returns-clause-refused : goal.returns-clause-refused
returns-clause-refused g c =
    let config = g.L.Label.config in
    refused_as config g.L.Label.seed (ask_value_first config.nodes (calls.Emit c.args.to)) (bare_emit c.args.to) refl
    c.enter_owned.result c.enter_owned.ensures.refused
