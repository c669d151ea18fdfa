-- What a run came to: its receipts, and why calls were refused.
use Rattle.std.specs.Prelude.{ℕ, List, Vec}
use Rattle.std.specs.declared.alloc.Global.{Global}
use Rattle.node_calls.specs.declared.fault.NodeFault.{NodeFault}
use Rattle.node_calls.specs.declared.receipt.Receipt.{Receipt}

-- each list holds those of one caller, in the order of its calls
abbrev pub Lists : Type 0
Lists = List (Vec Receipt Global)

-- why calls were refused, one after the other
abbrev pub FaultList : Type 0
FaultList = List NodeFault

-- why calls before the workers were refused, each with the place of its line among those of the plan
abbrev pub StartFaults : Type 0
StartFaults = List (ℕ × NodeFault)

-- why calls of a run were refused: those before the workers, and those of the workers
abbrev pub RunFaults : Type 0
RunFaults = StartFaults × FaultList
