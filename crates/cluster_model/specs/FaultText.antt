-- What a fault of a world prints.
use Rattle.std.specs.Prelude.{ℕ, List, codes}
use Rattle.node_calls.specs.FaultText.{node_fault_text}
use Rattle.cluster_model.specs.declared.fault.WorldFault.{WorldFault}
use Rattle.cluster_model.specs.declared.fault.WorldFault.TheVariants.{NoNode, NoMessage, Refused}

-- its name, or the text of the node's fault
abbrev pub world_fault_text : WorldFault → List ℕ
world_fault_text NoNode = codes "NoNode"
world_fault_text NoMessage = codes "NoMessage"
world_fault_text (Refused fault) = node_fault_text fault
