-- Several calls that nothing comes between.
use Rattle.std.specs.Prelude.{◌≡◌, ℕ, Bool, List, [], ◌∷◌, length, None}
use Rattle.node_steps.specs.declared.config.Config.{Config}
use Rattle.node_calls.specs.Asks.{Asked}
use Rattle.node_core.specs.Traces.{Kept, SendsDelta, after_call, node_of, refusal}
use Rattle.node_registry.specs.Cells.{Cell, IsCellSince}
use Rattle.node_registry.specs.Seats.{AreCalled, SeatState}
use Rattle.node_registry.specs.Words.{words_taken}

-- a node accepts these calls in turn, none of which takes random draws, and is then the second one
abbrev pub AreAccepted : Kept → List Asked → Kept → Type 0
AreAccepted k [] new = new ≡ k
AreAccepted k (ask ∷ asks) new =
    (words_taken k ask ≡ 0) × (refusal k ask [] ≡ None) × SendsDelta (node_of k) ask
    × AreAccepted (after_call k ask []) asks new

-- it accepts some
abbrev pub GoesOn : Kept → Kept → Type 0
GoesOn k new = (asks : List Asked) × AreAccepted k asks new

-- the node of a cell accepts these calls in turn, and the cell is then the second one: its generator stays where it is
abbrev pub AreEntered : Cell → List Asked → Cell → Type 0
AreEntered c asks d = AreAccepted c.node asks d.node × (d.key ≡ c.key) × (d.place ≡ c.place)

-- some lawful cell of the node that has the calls of a seat accepted calls in turn, each of which was counted to the
-- seat, and this came of them
pub record IsBatch (config : Config) (seed : List ℕ) (keeps : Bool) (seats : ℕ) (had has : SeatState)
    (comes : Kept → Kept → Type 0) : Type 0 where
  pub before : Cell
  pub after : Cell
  pub asks : List Asked
  pub since : IsCellSince config seed keeps seats had before
  pub entered : AreEntered before asks after
  pub counted : AreCalled had (length asks) (length after.node.trace) has
  pub came : comes before.node after.node
