-- What holds of every answer.
use Rattle.std.specs.Prelude.{◌≡◌, ◌++◌, codes, decimal}
use Rattle.node_calls.specs.FaultCodes.{code_of}
use Rattle.node_calls.specs.FaultText.{node_fault_text}
use Rattle.node_calls.specs.declared.fault.NodeFault.{NodeFault}
use Rattle.answers.specs.Causes.{cause_text}

-- the text of a fault is its code and its cause
abbrev pub FaultsAreCoded : Type 0
FaultsAreCoded = (fault : NodeFault) →
    node_fault_text fault ≡ codes "N" ++ decimal (code_of fault) ++ codes " " ++ cause_text fault
