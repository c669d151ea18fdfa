-- Pauses.
use Rattle.std.specs.Prelude.{ℕ, List}
use Rattle.stamp_register.specs.declared.key.Stamp.{Stamp}
use Rattle.node_core.specs.Stamps.{HasStamp}
use Rattle.node_core.specs.Traces.{Kept, state_known}

-- a pause that began under this stamp is over: the point doesn't have it any more
unfoldable pub IsPauseOver : Kept → List ℕ → Stamp → Type 0
IsPauseOver k name stamp = HasStamp ((state_known k).key name) stamp → ⊥
