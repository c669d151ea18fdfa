-- Spreads of a node behind a lock.
use Rattle.std.specs.Prelude.{◌≡◌, ℕ, Bool, List, IsSome, Result, Ok, Err}
use Rattle.node_steps.specs.declared.config.Config.{Config}
use Rattle.node_calls.specs.declared.fault.NodeFault.{NodeFault}
use Rattle.stamp_register.specs.declared.key.Stamp.{Stamp}
use Rattle.node_steps.specs.Nodes.{setting_of}
use Rattle.node_core.specs.Traces.{Kept, state_known}
use Rattle.node_registry.specs.Batches.{IsBatch}
use Rattle.node_registry.specs.Seats.{SeatState}
use Rattle.node_sharing.specs.Made.{AreMade}
use Rattle.node_sharing.specs.Spread.{IsNotSetSpread, IsNotSpread, IsSetSpread, rights_kept, spread_due}

-- the rights of a node to a point that is set are spread, and the answer is how many it keeps; or they aren't spread so
abbrev pub SpreadsSo : List ℕ → Kept → Kept → Result ℕ NodeFault → Type 0
SpreadsSo name k new (Ok kept) =
    (kept ≡ rights_kept new name) × IsSome (setting_of (state_known k) name) × AreMade k (spread_due k name) new
SpreadsSo name k new (Err fault) = IsNotSpread k name new fault

-- a point is set, and the rights to it are spread; or this isn't done so
abbrev pub SetsSpread : List ℕ → List ℕ → Kept → Kept → Result Stamp NodeFault → Type 0
SetsSpread name text k new (Ok stamp) = IsSetSpread k name text stamp new
SetsSpread name text k new (Err fault) = IsNotSetSpread k name text new fault

-- this came of it at some lawful cell of the node, from a seat, which counts each call
abbrev pub IsSpreadOf : Config → List ℕ → Bool → ℕ → SeatState → SeatState → List ℕ → Result ℕ NodeFault → Type 0
IsSpreadOf config seed keeps seats had has name result =
    IsBatch config seed keeps seats had has (λ k new. SpreadsSo name k new result)

abbrev pub IsSetSpreadOf : Config → List ℕ → Bool → ℕ → SeatState → SeatState → List ℕ → List ℕ →
    Result Stamp NodeFault → Type 0
IsSetSpreadOf config seed keeps seats had has name text result =
    IsBatch config seed keeps seats had has (λ k new. SetsSpread name text k new result)
