use Rattle.std.proofs.Common.{◌≤◌, arith, subst, length}
use Rattle.cluster_model.specs.Events.{WorldValue, event_value, node_asked}
use Rattle.cluster_model.proofs.WorldClauses.{no_node}
use Rattle.cluster_model.proofs.world.World.step.Goals as goal

pub returns-then-node-len-clause-answer : goal.returns-then-node-len-clause-answer
returns-then-node-len-clause-answer c =
    let high = c.if-node-len.true in
    let node = c.node.ensures in
    let len = c.len.ensures in
    let size = c.self.inside.nodes.ok.0 in
    no_node c.args.self.now (event_value c.args.event.now)
    (subst (λ (w : WorldValue). length w.nodes ≤ node_asked (event_value c.args.event.now)) c.self.view_is
    (omega (arith, high, node, len, size)))
