use Rattle.node_calls.specs.declared.ask.Ask.TheVariants as calls
use Rattle.node_calls.specs.Asks as asks
use Rattle.node_calls.specs.Asks.{ask_value_first}
use Rattle.node_registry.proofs.GivenReceipts.{memory_refused, receipt_is_of, refused_as}
use Rattle.node_registry.proofs.registry.Registry.load.Goals as goal

pub returns-in_err-text-clause-refused : goal.returns-in_err-text-clause-refused
returns-in_err-text-clause-refused g c =
    memory_refused g.L.Label.config g.L.Label.seed (asks.Load c.args.text.now) c.from_residual.result
    c.from_residual.ensures.1

pub returns-clause-receipt : goal.returns-clause-receipt
returns-clause-receipt g c =
    let ask = calls.Load c.in_ok-text.text in
    receipt_is_of g.L.Label.config ask (asks.Load c.args.text.now) (λ reply. λ i. asks.Load (c.in_ok-text.ensures.ok i))
    c.enter_owned.result c.enter_owned.ensures.node c.enter_owned.ensures.asked

pub returns-clause-refused : goal.returns-clause-refused
returns-clause-refused g c =
    let config = g.L.Label.config in
    let ask = calls.Load c.in_ok-text.text in
    refused_as config g.L.Label.seed (ask_value_first config.nodes ask) (asks.Load c.args.text.now)
    (λ i. asks.Load (c.in_ok-text.ensures.ok i))
    c.enter_owned.result c.enter_owned.ensures.refused
