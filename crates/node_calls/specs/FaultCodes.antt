-- The codes of faults.
use Rattle.std.specs.Prelude.{◌≡◌, ℕ, List, ◌++◌, codes, decimal}
use Rattle.node_calls.specs.FaultText.{node_fault_text}
use Rattle.node_calls.specs.declared.fault.NodeFault.{NodeFault}
use Rattle.node_calls.specs.declared.fault.NodeFault.TheVariants as faults

-- the number of a fault's code
abbrev pub code_of : NodeFault → ℕ
code_of faults.TraceFull = 1
code_of faults.BadName = 2
code_of (faults.BadActions fault) = 3
code_of faults.TooManyPoints = 4
code_of faults.ClockFull = 5
code_of faults.NotSet = 6
code_of faults.NoSuchTerm = 7
code_of faults.NotCounted = 8
code_of faults.BadNode = 9
code_of faults.ZeroAmount = 10
code_of (faults.TooFewRights have) = 11
code_of faults.CellFull = 12
code_of (faults.BadWords need) = 14
code_of (faults.BadMessage fault) = 16
code_of faults.NotForMe = 17
code_of faults.OwnAhead = 18
code_of faults.AckAhead = 19
code_of faults.Overspent = 20
code_of faults.BadConfig = 21
code_of faults.OutOfMemory = 22

-- all of them are below this
abbrev pub codes_end : ℕ
codes_end = 23

-- the text of a fault begins with `N`, the number of its code, and a space
abbrev pub IsCoded : NodeFault → Type 0
IsCoded fault = (rest : List ℕ) × (node_fault_text fault ≡ codes "N" ++ decimal (code_of fault) ++ codes " " ++ rest)
