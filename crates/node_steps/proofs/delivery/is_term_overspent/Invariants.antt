use Rattle.std.proofs.Common.{◌≡◌, false}
use Rattle.operations.specs.Operations.{count_at}
use Rattle.node_steps.specs.Replicas.{point_held}
use Rattle.node_steps.specs.Refusals.{any_below, exceeds_count}
use Rattle.node_steps.specs.Received.{execs_both, granted_both}
use Rattle.node_steps.proofs.delivery.is_term_overspent.Given as goal

abbrev pub invariant-loop-term : goal.invariant-loop-term
invariant-loop-term l = any_below l.term (λ term. exceeds_count (count_at l.actions term)
    (granted_both l.nodes l.order (point_held l.held) (point_held l.received) term)
    (execs_both l.nodes l.order (point_held l.held) (point_held l.received) term)) ≡ false
