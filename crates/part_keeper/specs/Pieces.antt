-- What a recording writes of its node's calls: pieces, each of which begins where the one before it ended.
use Rattle.std.specs.Prelude.{◌≡◌, ℕ, ◌+◌, ◌≤◌, Bool, List, length, Option}
use Rattle.streams.specs.Watched.{inner_of}
use Rattle.node_calls.specs.declared.ask.Ask.{Ask}
use Rattle.node_calls.specs.declared.receipt.Receipt.{Receipt}
use Rattle.node_calls.specs.declared.reply.Reply.{Reply}
use Rattle.node_steps.specs.declared.config.Config.{Config}
use Rattle.node_registry.specs.declared.guarded.Piece.{Piece}
use Rattle.node_registry.specs.Cells.{Cell, IsCellSince}
use Rattle.node_registry.specs.Pieces.{HasCall, IsPieceOf}
use Rattle.node_registry.specs.Receipts.{IsGiven}
use Rattle.node_registry.specs.Seats.{SeatState}
use Rattle.part_keeper.specs.declared.journal.Journal.{Journal}
use Rattle.part_keeper.specs.Kept.{Records}

-- the lines of a piece were written behind those of all calls before it
pub record Adds {W : Type 0} (contents : W → Option (List ℕ)) (old new : W) (had has : ℕ) (piece : Piece) : Type 0 where
  pub begins : piece.from ≡ had
  pub ends : has ≡ had + length piece.trace.calls
  pub lines : Records contents old new piece.trace.calls

-- to a journal that had the lines of as many calls
abbrev pub Writes : {W : Type 0} → (W → Option (List ℕ)) → Journal W → Journal W → Piece → Type 0
Writes contents old new piece =
    Adds contents (inner_of old.lines.out) (inner_of new.lines.out) old.calls new.calls piece

-- So it was with what some lawful node kept, which has the calls of a seat. All its calls have their line then
pub record Continues {W : Type 0} (contents : W → Option (List ℕ)) (config : Config) (seed : List ℕ) (keeps : Bool)
    (seats : ℕ) (seat : SeatState) (old new : W) (had has : ℕ) : Type 0 where
  pub cell : Cell
  pub piece : Piece
  pub since : IsCellSince config seed keeps seats seat cell
  pub given : IsPieceOf cell piece
  pub added : Adds contents old new had has piece
  pub whole : length cell.node.trace ≤ has

-- and the call of a receipt is the last of them, which has this ask and this reply
pub record HasLine {W : Type 0} (contents : W → Option (List ℕ)) (config : Config) (seed : List ℕ) (keeps : Bool)
    (seats : ℕ) (seat : SeatState) (old new : W) (had has : ℕ) (ask : Ask) (reply : Reply) : Type 0 where
  pub on : Continues contents config seed keeps seats seat old new had has
  pub receipt : Receipt
  pub asked : receipt.entry.ask ≡ ask
  pub answered : receipt.entry.reply ≡ reply
  pub given : IsGiven config seed receipt
  pub there : HasCall on.piece receipt
  pub last : receipt.index + 1 ≡ has
