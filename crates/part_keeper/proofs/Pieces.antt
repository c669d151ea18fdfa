-- A piece of a node was written.
use Rattle.std.proofs.Common.{◌≡◌, ℕ, ◌+◌, ◌-◌, ◌≤◌, arith, Bool, List, length, refl, ap, Option}
use Rattle.std.proofs.lemmas.List.{length-drop, length-map}
use Rattle.node_calls.specs.declared.ask.Ask.{Ask}
use Rattle.node_calls.specs.declared.reply.Reply.{Reply}
use Rattle.node_calls.specs.Asks.{call_from}
use Rattle.node_steps.specs.declared.config.Config.{Config}
use Rattle.node_registry.specs.declared.guarded.Piece.{Piece}
use Rattle.node_registry.specs.Cells.{Cell, IsCellSince}
use Rattle.node_registry.specs.Pieces.{IsGivenCall, IsPieceOf}
use Rattle.node_registry.specs.Receipts.{IsAnswered, receipt_of}
use Rattle.node_registry.specs.Seats.{HasSameCalls, SeatState, gave}
use Rattle.node_registry.proofs.SameCalls.{cell_as}
use Rattle.part_keeper.specs.Kept.{IsRecorded}
use Rattle.part_keeper.specs.Pieces.{Adds, Continues, HasLine}

-- all calls of a node are in a piece of it, or before it
pub all_before : (c : Cell) (p : Piece) → IsPieceOf c p → length c.node.trace ≤ p.from + length p.trace.calls
all_before c p h =
    let from = h.0 in
    let same = ap length h.1 in
    let each = length-map p.trace.calls (call_from c.node.config.nodes) in
    let left = length-drop c.node.from c.node.trace in
    omega (arith, from, same, each, left)

-- a seat that handed calls out made no other
pub same_after : (had now : SeatState) (more : ℕ) → now ≡ gave had more → HasSameCalls had now
same_after had now more is = (ap (λ (s : SeatState). s.calls) is, ap (λ (s : SeatState). s.next) is)

module _ {W : Type 0} (contents : W → Option (List ℕ)) (config : Config) (seed : List ℕ) (keeps : Bool)
    (seats : ℕ) (seat : SeatState) (old new : W) (had has : ℕ) where
  abbrev pub continues : (c : Cell) (p : Piece) → IsCellSince config seed keeps seats seat c → IsPieceOf c p →
      Adds contents old new had has p → Continues contents config seed keeps seats seat old new had has
  continues c p since given added =
      let all = all_before c p given in
      let begins = added.begins in
      let ends = added.ends in
      record {
        cell = c;
        piece = p;
        since = since;
        given = given;
        added = added;
        whole = omega (arith, all, begins, ends);
      }

  -- by what a node gave
  abbrev pub given_continues : (was : SeatState) (p : Piece) → HasSameCalls was seat →
      ((c : Cell) × IsCellSince config seed keeps seats was c × IsPieceOf c p) → Adds contents old new had has p →
      Continues contents config seed keeps seats seat old new had has
  given_continues was p same h added =
      continues h.0 p (cell_as config seed keeps seats was seat h.0 same h.1) h.2 added

  -- so all calls of the seat have their line
  pub seat_has_lines : Continues contents config seed keeps seats seat old new had has → seat.calls ≤ has
  seat_has_lines k =
      let since = k.since.0.since in
      let whole = k.whole in
      omega (arith, since, whole)

  -- by a call that was handed out with the piece
  pub has_line : (was : SeatState) (ask : Ask) (reply : Reply) (p : Piece)
      (h : IsGivenCall config seed keeps seats was seat ask reply p) → Adds contents old new had has p →
      HasLine contents config seed keeps seats seat old new had has ask reply
  has_line was ask reply p h added =
      let last = h.gives.last in
      let begins = added.begins in
      let ends = added.ends in
      record {
        on = continues h.after p h.held h.gives.given added;
        receipt = receipt_of h.before h.gives.entry;
        asked = h.gives.asked;
        answered = h.gives.answered;
        given = (h.before, h.after, h.since.0.lawful, h.gives.entered, refl);
        there = h.gives.call;
        last = omega (arith, last, begins, ends);
      }

  pub recorded : (ask : Ask) (reply : Reply) →
      HasLine contents config seed keeps seats seat old new had has ask reply → IsRecorded contents old new ask reply
  recorded ask reply h = record {
    entry = h.receipt.entry;
    calls = h.on.piece.trace.calls;
    place = h.receipt.index - h.on.piece.from;
    asked = h.asked;
    answered = h.answered;
    among = h.there.1;
    written = h.on.added.lines;
  }

pub given_answered : (config : Config) (seed : List ℕ) (keeps : Bool) (seats : ℕ) (had has : SeatState) (ask : Ask)
    (reply : Reply) (p : Piece) → IsGivenCall config seed keeps seats had has ask reply p → IsAnswered config seed ask reply
given_answered config seed keeps seats had has ask reply p h = (
  receipt_of h.before h.gives.entry,
  ap (λ (k : Config). k.node) h.since.0.lawful.1,
  h.gives.asked,
  h.gives.answered,
  (h.before, h.after, h.since.0.lawful, h.gives.entered, refl),
)

pub counted_once : (config : Config) (seed : List ℕ) (keeps : Bool) (seats : ℕ) (had has : SeatState) (ask : Ask)
    (reply : Reply) (p : Piece) → IsGivenCall config seed keeps seats had has ask reply p → has.calls ≡ had.calls + 1
counted_once config seed keeps seats had has ask reply p h = ap (λ (s : SeatState). s.calls) h.counted
