-- What a registry hands out of its node's trace.
use Rattle.std.specs.Prelude.{◌≡◌, ◌≤◌, ◌<◌, ◌+◌, ◌-◌, ℕ, Bool, List, [], drop, length, map, slice_get, slice_index, Some}
use Rattle.node_calls.specs.declared.ask.Ask.{Ask}
use Rattle.node_calls.specs.declared.receipt.Receipt.{Receipt}
use Rattle.node_calls.specs.declared.reply.Reply.{Reply}
use Rattle.node_calls.specs.declared.trace.Entry.{Entry}
use Rattle.node_calls.specs.Told.{ReplyTold, Told, bytes_of, told, was_emitted}
use Rattle.node_steps.specs.declared.config.Config.{Config}
use Rattle.node_core.specs.Traces.{IsLegal, Kept}
use Rattle.node_calls.specs.Asks.{Asked, Call, call_from}
use Rattle.node_registry.specs.declared.guarded.Closed.{Closed}
use Rattle.node_registry.specs.declared.guarded.Piece.{Piece}
use Rattle.node_registry.specs.Cells.{Cell, Enters, IsCellSince, IsDrawnBy}
use Rattle.node_registry.specs.Receipts.{receipt_of}
use Rattle.node_registry.specs.Batches.{AreEntered}
use Rattle.node_registry.specs.Seats.{AreCalled, SeatState, called, gave}

-- what a call tells has the bytes of a message as bytes
abbrev pub AreBytes : List ℕ → Type 0
AreBytes bytes = (i : ℕ) → slice_index bytes i < 256

-- the bytes of the message that an emit was answered with
abbrev pub emitted_in : ReplyTold → List ℕ
emitted_in (was_emitted bytes) = bytes
emitted_in _ = []

abbrev pub HasBytes : Told → Type 0
HasBytes t = AreBytes (bytes_of t.ask) × AreBytes (emitted_in t.reply)

-- a piece has the calls that the node kept, from the first of them on
abbrev pub IsPieceOf : Cell → Piece → Type 0
IsPieceOf c p = (p.from ≡ c.node.from)
    × (map (call_from c.node.config.nodes) p.trace.calls ≡ drop c.node.from c.node.trace)

-- the call of a receipt stands in a piece, at the place that its number says
abbrev pub HasCall : Piece → Receipt → Type 0
HasCall p r = (p.from ≤ r.index) × (slice_get p.trace.calls (r.index - p.from) ≡ Some (told r.entry))

-- A call of this ask is accepted in the first cell and answered so, and the cell is then the second one. A piece has all
-- that the node keeps then, of which this call is the last
pub record GivesCall (c d : Cell) (ask : Ask) (reply : Reply) (p : Piece) : Type 0 where
  pub entry : Entry
  pub asked : entry.ask ≡ ask
  pub answered : entry.reply ≡ reply
  pub entered : Enters c d entry
  pub given : IsPieceOf d p
  pub call : HasCall p (receipt_of c entry)
  pub last : p.from + length p.trace.calls ≡ length c.node.trace + 1

-- so it is in some lawful cell that has the calls of a seat, to which the call and the piece were counted
pub record IsGivenCall (config : Config) (seed : List ℕ) (keeps : Bool) (seats : ℕ) (had has : SeatState) (ask : Ask)
    (reply : Reply) (p : Piece) : Type 0 where
  pub before : Cell
  pub after : Cell
  pub since : IsCellSince config seed keeps seats had before
  pub held : IsCellSince config seed keeps seats has after
  pub gives : GivesCall before after ask reply p
  pub counted : has ≡ gave (called had (length before.node.trace)) (length p.trace.calls)

-- and so are the calls of a batch, of which this came: the piece has all that the node keeps after them
pub record IsGivenBatch (config : Config) (seed : List ℕ) (keeps : Bool) (seats : ℕ) (had has : SeatState)
    (comes : Kept → Kept → Type 0) (p : Piece) : Type 0 where
  pub before : Cell
  pub after : Cell
  pub asks : List Asked
  pub since : IsCellSince config seed keeps seats had before
  pub held : IsCellSince config seed keeps seats has after
  pub entered : AreEntered before asks after
  pub counted : AreCalled had (length asks) (length after.node.trace) has
  pub handed : has.given ≡ had.given + length p.trace.calls
  pub came : comes before.node after.node
  pub given : IsPieceOf after p

-- what is left of a node is the end of a legal trace, of so many calls, from one of them on; its random draws are the
-- first ones of the seed
pub record IsLeft (config : Config) (seed : List ℕ) (left : Closed) : Type 0 where
  pub all : List Call
  pub legal : IsLegal config all
  pub drawn : IsDrawnBy config seed all
  pub long : length all ≡ left.calls
  pub within : left.from ≤ left.calls
  pub end : map (call_from config.nodes) left.trace.calls ≡ drop left.from all

-- what is left of a node that kept each call is all of that trace
pub record IsAllLeft (config : Config) (seed : List ℕ) (left : Closed) : Type 0 where
  pub from : left.from ≡ 0
  pub legal : IsLegal config (map (call_from config.nodes) left.trace.calls)
  pub drawn : IsDrawnBy config seed (map (call_from config.nodes) left.trace.calls)
  pub entries : length left.trace.calls ≡ left.calls
