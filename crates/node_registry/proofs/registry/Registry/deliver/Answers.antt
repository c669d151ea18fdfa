use Rattle.node_calls.specs.declared.ask.Ask.TheVariants as calls
use Rattle.node_calls.specs.Asks as asks
use Rattle.node_calls.specs.Asks.{ask_value_first, message_read}
use Rattle.node_registry.proofs.GivenReceipts.{memory_refused, receipt_is_of, receipt_has_bytes, refused_as}
use Rattle.node_registry.proofs.registry.Registry.deliver.Goals as goal

pub returns-in_err-message-clause-refused : goal.returns-in_err-message-clause-refused
returns-in_err-message-clause-refused g c =
    memory_refused g.L.Label.config g.L.Label.seed (asks.Deliver
    (message_read g.L.Label.config.nodes c.args.message.now)) c.from_residual.result c.from_residual.ensures.1

pub returns-clause-receipt : goal.returns-clause-receipt
returns-clause-receipt g c =
    let config = g.L.Label.config in
    let ask = calls.Deliver c.in_ok-message.message in
    receipt_is_of config ask (asks.Deliver (message_read config.nodes c.args.message.now))
    (λ reply. λ i. asks.Deliver (message_read config.nodes (c.in_ok-message.ensures.items i)))
    c.enter_owned.result c.enter_owned.ensures.node c.enter_owned.ensures.asked

pub returns-clause-bytes : goal.returns-clause-bytes
returns-clause-bytes g c =
    receipt_has_bytes (calls.Deliver c.in_ok-message.message) c.args.message.now c.in_ok-message.ensures.items
    c.enter_owned.result c.enter_owned.ensures.asked

pub returns-clause-refused : goal.returns-clause-refused
returns-clause-refused g c =
    let config = g.L.Label.config in
    let ask = calls.Deliver c.in_ok-message.message in
    refused_as config g.L.Label.seed (ask_value_first config.nodes ask)
    (asks.Deliver (message_read config.nodes c.args.message.now))
    (λ i. asks.Deliver (message_read config.nodes (c.in_ok-message.ensures.items i)))
    c.enter_owned.result c.enter_owned.ensures.refused
