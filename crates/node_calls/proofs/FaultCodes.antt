-- The text of a fault begins with its code.
use Rattle.std.proofs.Common.{refl}
use Rattle.std.specs.Fmt.{digits}
use Rattle.node_calls.specs.FaultCodes.{IsCoded}
use Rattle.node_calls.specs.declared.fault.NodeFault.{NodeFault}
use Rattle.node_calls.specs.declared.fault.NodeFault.TheVariants as faults

pub coded : (fault : NodeFault) → IsCoded fault
unfolding digits
coded faults.TraceFull = (_, refl)
coded faults.BadName = (_, refl)
coded (faults.BadActions fault) = (_, refl)
coded faults.TooManyPoints = (_, refl)
coded faults.ClockFull = (_, refl)
coded faults.NotSet = (_, refl)
coded faults.NoSuchTerm = (_, refl)
coded faults.NotCounted = (_, refl)
coded faults.BadNode = (_, refl)
coded faults.ZeroAmount = (_, refl)
coded (faults.TooFewRights have) = (_, refl)
coded faults.CellFull = (_, refl)
coded (faults.BadWords need) = (_, refl)
coded (faults.BadMessage fault) = (_, refl)
coded faults.NotForMe = (_, refl)
coded faults.OwnAhead = (_, refl)
coded faults.AckAhead = (_, refl)
coded faults.Overspent = (_, refl)
coded faults.BadConfig = (_, refl)
coded faults.OutOfMemory = (_, refl)
