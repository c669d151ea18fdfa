-- The name of a code, and the text of its fault.
use Rattle.std.proofs.Common.{◌≡◌, ◌+◌, ◌++◌, refl}
use Rattle.std.specs.Prelude.{MatchOption, codes, length, take}
use Rattle.node_calls.specs.declared.fault.NodeFault.{NodeFault}
use Rattle.node_calls.specs.declared.fault.NodeFault.TheVariants as faults
use Rattle.node_calls.specs.FaultText.{node_fault_text}
use Rattle.report_text.specs.Peers.{code_name}
use Rattle.peers.specs.Codes.{code_of}

pub named : (fault : NodeFault) → MatchOption (code_of fault) (Unit {0})
    (λ code. take (length (code_name code) + 1) (node_fault_text fault) ≡ code_name code ++ codes " ")
named faults.TraceFull = refl
named faults.BadName = tt
named (faults.BadActions fault) = tt
named faults.TooManyPoints = refl
named faults.ClockFull = tt
named faults.NotSet = tt
named faults.NoSuchTerm = tt
named faults.NotCounted = tt
named faults.BadNode = tt
named faults.ZeroAmount = tt
named (faults.TooFewRights have) = tt
named faults.CellFull = tt
named (faults.BadWords need) = tt
named (faults.BadMessage fault) = refl
named faults.NotForMe = refl
named faults.OwnAhead = refl
named faults.AckAhead = refl
named faults.Overspent = refl
named faults.BadConfig = tt
named faults.OutOfMemory = refl
