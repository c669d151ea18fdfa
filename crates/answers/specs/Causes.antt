-- The text of a node's fault without its code.
use Rattle.std.specs.Prelude.{ℕ, List, ◌++◌, codes, decimal}
use Rattle.message_format.specs.FaultText.{wire_fault_text}
use Rattle.node_calls.specs.FaultText.{text_fault_text}
use Rattle.node_calls.specs.declared.fault.NodeFault.{NodeFault}
use Rattle.node_calls.specs.declared.fault.NodeFault.TheVariants as faults

-- its name, and what it holds
abbrev pub cause_text : NodeFault → List ℕ
cause_text faults.TraceFull = codes "TraceFull"
cause_text faults.BadName = codes "BadName"
cause_text (faults.BadActions fault) = codes "BadActions " ++ text_fault_text fault
cause_text faults.TooManyPoints = codes "TooManyPoints"
cause_text faults.ClockFull = codes "ClockFull"
cause_text faults.NotSet = codes "NotSet"
cause_text faults.NoSuchTerm = codes "NoSuchTerm"
cause_text faults.NotCounted = codes "NotCounted"
cause_text faults.BadNode = codes "BadNode"
cause_text faults.ZeroAmount = codes "ZeroAmount"
cause_text (faults.TooFewRights have) = codes "TooFewRights have=" ++ decimal have
cause_text faults.CellFull = codes "CellFull"
cause_text (faults.BadWords need) = codes "BadWords need=" ++ decimal need
cause_text (faults.BadMessage fault) = codes "BadMessage " ++ wire_fault_text fault
cause_text faults.NotForMe = codes "NotForMe"
cause_text faults.OwnAhead = codes "OwnAhead"
cause_text faults.AckAhead = codes "AckAhead"
cause_text faults.Overspent = codes "Overspent"
cause_text faults.BadConfig = codes "BadConfig"
cause_text faults.OutOfMemory = codes "OutOfMemory"
