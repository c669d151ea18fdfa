-- The shifts that a node is to make in a round, and how they are made.
use Rattle.std.specs.Prelude.{◌≡◌, ℕ, List, [], ◌∷◌, slice_get, take, ◌⊎◌, Some, None}
use Rattle.node_calls.specs.Asks.{Asked}
use Rattle.node_calls.specs.Asks as asks
use Rattle.node_calls.specs.declared.fault.NodeFault.{NodeFault}
use Rattle.node_calls.specs.declared.fault.NodeFault.TheVariants.{OutOfMemory}
use Rattle.node_core.specs.Traces.{Kept, after_call, refusal, state_known}
use Rattle.sharing.specs.declared.shift.Shift.{Shift}
use Rattle.sharing.specs.Memory.{Recalled}
use Rattle.sharing.specs.Shares.{shifts_of}

-- those that a node is to make, by what it knows and remembers
abbrev pub shifts_due : Kept → List Recalled → List Shift
shifts_due k memory = shifts_of (state_known k) k.config.node k.config.nodes memory

-- a shift as a call
abbrev pub asked : Shift → Asked
asked shift = asks.Shift shift.name shift.term shift.to shift.amount

-- shifts are made by calls, one after another, each of which the node accepts
abbrev pub AreMade : Kept → List Shift → Kept → Type 0
AreMade k [] new = new ≡ k
AreMade k (shift ∷ shifts) new =
    (refusal k (asked shift) [] ≡ None) × AreMade (after_call k (asked shift) []) shifts new

-- so many of the first are made, and the next is refused so, or memory was refused
abbrev pub IsStopped : Kept → List Shift → Kept → NodeFault → Type 0
IsStopped k shifts new fault =
    (count : ℕ) × AreMade k (take count shifts) new × ((fault ≡ OutOfMemory) ⊎ ((shift : Shift)
    × (slice_get shifts count ≡ Some shift) × (refusal new (asked shift) [] ≡ Some fault)))
