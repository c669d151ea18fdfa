-- Rounds of sharing of a node behind a lock.
use Rattle.std.specs.Prelude.{◌≡◌, ℕ, ◌+◌, Bool, List, [], ◌∷◌, length, Some, Result, Ok, Err}
use Rattle.node_steps.specs.declared.config.Config.{Config}
use Rattle.node_calls.specs.declared.fault.NodeFault.{NodeFault}
use Rattle.node_calls.specs.declared.receipt.Receipt.{Receipt}
use Rattle.node_calls.specs.Asks.{call_from}
use Rattle.node_calls.specs.Told.{told}
use Rattle.node_core.specs.Traces.{Kept, call_kept, state_known}
use Rattle.node_registry.specs.Batches.{IsBatch}
use Rattle.node_registry.specs.Cells.{Cell, Enters, IsCellSince}
use Rattle.node_registry.specs.Receipts.{receipt_of, seat_after}
use Rattle.node_registry.specs.Seats.{SeatState}
use Rattle.node_sharing.specs.Made.{AreMade, IsStopped, shifts_due}
use Rattle.sharing.specs.Memory.{Recalled}
use Rattle.sharing.specs.Shares.{memory_after}

-- the shifts that are due by what was remembered are made, in their order, and the round is remembered; or they stop at
-- one, and what is remembered stays as it was
abbrev pub Shares : List Recalled → List Recalled → Kept → Kept → Result ℕ NodeFault → Type 0
Shares was now k new (Ok count) =
    (count ≡ length (shifts_due k was)) × AreMade k (shifts_due k was) new
    × (now ≡ memory_after (state_known k) k.config.node k.config.nodes was)
Shares was now k new (Err fault) = IsStopped k (shifts_due k was) new fault × (now ≡ was)

-- this came of a round at some lawful cell of the node, made from a seat, which counts each shift
abbrev pub IsShareRound : Config → List ℕ → Bool → ℕ → SeatState → SeatState → List Recalled → List Recalled →
    Result ℕ NodeFault → Type 0
IsShareRound config seed keeps seats had has was now result =
    IsBatch config seed keeps seats had has (λ k new. Shares was now k new result)

-- ---- with the receipts of the shifts

-- receipts of the calls that a node keeps from this place on
abbrev pub AreCallsFrom : Kept → ℕ → List Receipt → Type 0
AreCallsFrom k index [] = Unit {0}
AreCallsFrom k index (r ∷ rs) =
    (r.node ≡ k.config.node) × (r.index ≡ index)
    × (call_kept k index ≡ Some (call_from k.config.nodes (told r.entry))) × AreCallsFrom k (index + 1) rs

-- of a round these are the receipts, one of each call that the node accepted in it
abbrev pub SharesWith : List Recalled → List Recalled → Kept → Kept → List Receipt → Type 0
SharesWith was now k new receipts =
    (result : Result ℕ NodeFault) × Shares was now k new result × AreCallsFrom new (length k.trace) receipts
    × (length k.trace + length receipts ≡ length new.trace)

-- the calls that led one cell to another have these receipts, in their order
abbrev pub AreReceiptsOf : Cell → List Receipt → Cell → Type 0
AreReceiptsOf c [] d = d ≡ c
AreReceiptsOf c (r ∷ rs) d =
    (e : Cell) × Enters c e r.entry × (r ≡ receipt_of c r.entry) × AreReceiptsOf e rs d

-- a round at some lawful cell of the node, made from a seat, which counts each shift, had these receipts
pub record IsRoundWith (config : Config) (seed : List ℕ) (keeps : Bool) (seats : ℕ) (had has : SeatState)
    (was now : List Recalled) (receipts : List Receipt) : Type 0 where
  pub before : Cell
  pub after : Cell
  pub result : Result ℕ NodeFault
  pub since : IsCellSince config seed keeps seats had before
  pub given : AreReceiptsOf before receipts after
  pub counted : has ≡ seat_after had receipts
  pub came : Shares was now before.node after.node result
