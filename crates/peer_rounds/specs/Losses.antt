-- Which messages show that a node has lost its state.
use Rattle.std.specs.Prelude.{Bool, true, false, List, find, map, Option}
use Rattle.node_calls.specs.declared.fault.NodeFault.{NodeFault}
use Rattle.node_calls.specs.declared.fault.NodeFault.TheVariants as faults
use Rattle.gossip.specs.declared.failures.Rejected.{Rejected}

-- by such a fault others know more of the node than it does: it has lost its state
abbrev pub is_loss : NodeFault → Bool
is_loss faults.OwnAhead = true
is_loss faults.AckAhead = true
is_loss _ = false

-- the first such fault of messages that were rejected
abbrev pub first_loss : List Rejected → Option NodeFault
first_loss rejected = find is_loss (map (λ (r : Rejected). r.fault) rejected)
