use Rattle.std.proofs.Common.{◌≡◌, ◌<◌, ◌≤◌, map}
use Rattle.std.specs.List.{range_with_len}
use Rattle.message_format.specs.Limits.{max_nodes}
use Rattle.cluster_model.specs.Events.{new_node}
use Rattle.cluster_model.proofs.world.World.new.Given as goal

-- the nodes so far are new ones, and the first of them is made in a cluster of a right size alone
abbrev pub invariant-loop-node : goal.invariant-loop-node
invariant-loop-node l = record {
  made : l.cores.items ≡ map (new_node (record { nodes = l.nodes; trace_cap = l.trace_cap })) (range_with_len 0 l.node);
  few : 0 < l.node → l.nodes ≤ max_nodes;
}
