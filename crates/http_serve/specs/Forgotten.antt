-- That a node forgets the calls that it kept.
use Rattle.std.specs.Prelude.{◌≡◌, ℕ, Bool, List, length}
use Rattle.node_steps.specs.declared.config.Config.{Config}
use Rattle.node_registry.specs.declared.guarded.Piece.{Piece}
use Rattle.node_registry.specs.Cells.{Cell, IsCellSince}
use Rattle.node_registry.specs.Pieces.{IsPieceOf}
use Rattle.node_registry.specs.Seats.{SeatState}

-- some lawful node that has the calls of a seat handed out those that it kept: so many, from that one on
abbrev pub HandsOut : Config → List ℕ → Bool → ℕ → SeatState → ℕ → ℕ → Type 0
HandsOut config seed keeps seats seat from count =
    (c : Cell) × (piece : Piece) × IsCellSince config seed keeps seats seat c × IsPieceOf c piece
    × (piece.from ≡ from) × (length piece.trace.calls ≡ count)
