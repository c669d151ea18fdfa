use Rattle.std.proofs.Common.{◌≡◌, ◌*◌, ◌≤◌, ◌^◌}
use Rattle.node_steps.specs.Replicas.{point_held}
use Rattle.node_steps.specs.Received.{granted_both}
use Rattle.node_steps.proofs.delivery.granted_both.Given as goal

abbrev pub invariant-loop-node : goal.invariant-loop-node
invariant-loop-node l = record {
  value : l.sum ≡ granted_both l.node l.order (point_held l.held) (point_held l.received)
      l.term;
  small : l.sum ≤ l.node * 2 ^ 64;
}
