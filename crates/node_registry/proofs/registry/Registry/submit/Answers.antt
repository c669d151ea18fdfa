use Rattle.std.proofs.lemmas.Result.{IfOk-weaker}
use Rattle.node_registry.specs.Receipts.{IsAnswered}
use Rattle.node_registry.proofs.GivenReceipts.{answered}
use Rattle.node_registry.proofs.registry.Registry.submit.Goals as goal

pub returns-clause-answered : goal.returns-clause-answered
returns-clause-answered g c =
    let config = g.L.Label.config in
    IfOk-weaker c.submit.result _ (IsAnswered config g.L.Label.seed c.args.ask)
    (answered config g.L.Label.seed c.deref_mut.result.now c.submit.ensures.lawful c.submit.new.self c.args.ask)
    c.submit.ensures.ok
