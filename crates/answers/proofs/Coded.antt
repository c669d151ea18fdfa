-- The text of a fault is its code and its cause.
use Rattle.std.proofs.Common.{refl}
use Rattle.std.specs.Fmt.{digits}
use Rattle.node_calls.specs.declared.fault.NodeFault.TheVariants as faults
use Rattle.answers.specs.Laws.{FaultsAreCoded}

pub coded : FaultsAreCoded
unfolding digits
coded faults.TraceFull = refl
coded faults.BadName = refl
coded (faults.BadActions fault) = refl
coded faults.TooManyPoints = refl
coded faults.ClockFull = refl
coded faults.NotSet = refl
coded faults.NoSuchTerm = refl
coded faults.NotCounted = refl
coded faults.BadNode = refl
coded faults.ZeroAmount = refl
coded (faults.TooFewRights have) = refl
coded faults.CellFull = refl
coded (faults.BadWords need) = refl
coded (faults.BadMessage fault) = refl
coded faults.NotForMe = refl
coded faults.OwnAhead = refl
coded faults.AckAhead = refl
coded faults.Overspent = refl
coded faults.BadConfig = refl
coded faults.OutOfMemory = refl
