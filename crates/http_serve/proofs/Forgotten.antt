-- The calls of a seat lie before the end of those that its node handed out.
use Rattle.std.proofs.Common.{◌≡◌, ℕ, ◌+◌, ◌-◌, ◌≤◌, Bool, List, length, sym, ap, ◌∙◌, arith, length-drop}
use Rattle.std.proofs.lemmas.List.{length-map}
use Rattle.node_steps.specs.declared.config.Config.{Config}
use Rattle.node_calls.specs.Asks.{call_from}
use Rattle.node_registry.specs.declared.guarded.Piece.{Piece}
use Rattle.node_registry.specs.Cells.{Cell, IsCellSince}
use Rattle.node_registry.specs.Pieces.{IsPieceOf}
use Rattle.node_registry.specs.Seats.{SeatState}

pub before_end : (config : Config) (seed : List ℕ) (keeps : Bool) (seats : ℕ) (seat : SeatState) (c : Cell)
    (piece : Piece) → IsCellSince config seed keeps seats seat c → IsPieceOf c piece
    → seat.calls ≤ piece.from + length piece.trace.calls
before_end config seed keeps seats seat c piece since of =
    let long : length piece.trace.calls ≡ length c.node.trace - c.node.from =
    sym (length-map piece.trace.calls (call_from c.node.config.nodes)) ∙ ap (λ calls. length calls) of.1
    ∙ length-drop c.node.from c.node.trace in omega (arith, of.0, long, since.0.since)
