-- The text of a fault.
use Rattle.std.specs.Prelude.{ℕ, List, ◌++◌, codes, decimal}
use Rattle.actions.specs.FaultText.{fault_text, setting_fault_text}
use Rattle.message_format.specs.FaultText.{wire_fault_text}
use Rattle.node_calls.specs.declared.fault.NodeFault.{NodeFault}
use Rattle.node_calls.specs.declared.fault.NodeFault.TheVariants as faults
use Rattle.node_calls.specs.declared.fault.TextFault.{TextFault}
use Rattle.node_calls.specs.declared.fault.TextFault.TheVariants as texts

-- the text of the fault that it holds
abbrev pub text_fault_text : TextFault → List ℕ
text_fault_text (texts.Actions fault) = fault_text fault
text_fault_text (texts.Setting fault) = setting_fault_text fault

-- its number, its name, and what it holds
abbrev pub node_fault_text : NodeFault → List ℕ
node_fault_text faults.TraceFull = codes "N1 TraceFull"
node_fault_text faults.BadName = codes "N2 BadName"
node_fault_text (faults.BadActions fault) = codes "N3 BadActions " ++ text_fault_text fault
node_fault_text faults.TooManyPoints = codes "N4 TooManyPoints"
node_fault_text faults.ClockFull = codes "N5 ClockFull"
node_fault_text faults.NotSet = codes "N6 NotSet"
node_fault_text faults.NoSuchTerm = codes "N7 NoSuchTerm"
node_fault_text faults.NotCounted = codes "N8 NotCounted"
node_fault_text faults.BadNode = codes "N9 BadNode"
node_fault_text faults.ZeroAmount = codes "N10 ZeroAmount"
node_fault_text (faults.TooFewRights have) = codes "N11 TooFewRights have=" ++ decimal have
node_fault_text faults.CellFull = codes "N12 CellFull"
node_fault_text (faults.BadWords need) = codes "N14 BadWords need=" ++ decimal need
node_fault_text (faults.BadMessage fault) = codes "N16 BadMessage " ++ wire_fault_text fault
node_fault_text faults.NotForMe = codes "N17 NotForMe"
node_fault_text faults.OwnAhead = codes "N18 OwnAhead"
node_fault_text faults.AckAhead = codes "N19 AckAhead"
node_fault_text faults.Overspent = codes "N20 Overspent"
node_fault_text faults.BadConfig = codes "N21 BadConfig"
node_fault_text faults.OutOfMemory = codes "N22 OutOfMemory"
