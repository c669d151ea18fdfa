-- What a caller is told.
use Rattle.std.specs.Prelude.{◌≡◌, ◌≤◌, ◌<◌, ◌⊎◌, ℕ, List, [], ◌∷◌, length, Some}
use Rattle.node_calls.specs.declared.ask.Ask.{Ask}
use Rattle.node_steps.specs.declared.config.Config.{Config}
use Rattle.node_calls.specs.declared.fault.NodeFault.{NodeFault}
use Rattle.node_calls.specs.declared.receipt.Receipt.{Receipt}
use Rattle.node_calls.specs.declared.reply.Reply.{Reply}
use Rattle.node_calls.specs.declared.trace.Entry.{Entry}
use Rattle.node_calls.specs.Asks.{Asked, ask_value, call_from}
use Rattle.node_calls.specs.Told.{Passed, Unset, NoTerm, Act, ask_told, bytes_of, told}
use Rattle.node_core.specs.Traces.{call_kept}
use Rattle.node_registry.specs.declared.pass_receipt.PassOutcome.{PassOutcome}
use Rattle.node_registry.specs.declared.pass_receipt.PassOutcome.TheVariants as outcomes
use Rattle.node_registry.specs.declared.pass_receipt.PassReceipt.{PassReceipt}
use Rattle.node_registry.specs.Cells.{Cell, Enters, IsLawfulAt, IsRefusedBy, Passes, next_passed}
use Rattle.node_registry.specs.Seats.{ComesNext, SeatState, called}

-- an entry is of this ask, to the byte, in a cluster of so many nodes
pub record IsEntryFor (nodes : ℕ) (ask : Ask) (e : Entry) : Type 0 where
  pub asked : ask_value nodes e.ask e.reply ≡ ask_value nodes ask e.reply
  pub bytes : bytes_of (ask_told e.ask) ≡ bytes_of (ask_told ask)

-- the receipt of an entry: its node's number, and how many entries the trace had before it
abbrev pub receipt_of : Cell → Entry → Receipt
receipt_of c e = record { node = c.node.config.node; index = length c.node.trace; entry = e }

-- a receipt is of this node and this ask
abbrev pub IsReceiptOf : Config → Asked → Receipt → Type 0
IsReceiptOf config ask r = (r.node ≡ config.node) × (ask_value config.nodes r.entry.ask r.entry.reply ≡ ask)

-- some lawful cell of the node accepts the call of the entry, and this is the receipt
abbrev pub IsGiven : Config → List ℕ → Receipt → Type 0
IsGiven config seed r =
    (c : Cell) × (d : Cell) × IsLawfulAt config seed c × Enters c d r.entry × (r ≡ receipt_of c r.entry)

-- what a pass came to, without its task
abbrev pub outcome_of : Passed → PassOutcome
outcome_of Unset = outcomes.Unset
outcome_of (NoTerm stamp) = outcomes.NoTerm stamp
outcome_of (Act stamp term task) = outcomes.Act stamp term

-- the receipt of a pass of a point with the next words
abbrev pub pass_receipt_of : Cell → List ℕ → PassReceipt
pass_receipt_of c name = record {
  node = c.node.config.node;
  index = length c.node.trace;
  outcome = outcome_of (next_passed c name);
}

-- some lawful cell of the node accepts a pass of the point, and this is the receipt
abbrev pub IsPassReceipt : Config → List ℕ → List ℕ → PassReceipt → Type 0
IsPassReceipt config seed name r =
    (c : Cell) × (d : Cell) × IsLawfulAt config seed c × Passes c d name × (r ≡ pass_receipt_of c name)

-- a receipt tells the call that the node keeps at this place
abbrev pub IsReceiptAt : Cell → ℕ → Receipt → Type 0
IsReceiptAt c index r = (r.node ≡ c.node.config.node) × (r.index ≡ index)
    × (call_kept c.node index ≡ Some (call_from c.node.config.nodes (told r.entry)))

-- where it keeps none there: the call is no longer kept, or there are fewer
abbrev pub IsNoneAt : Cell → ℕ → Type 0
IsNoneAt c index = (index < c.node.from) ⊎ (length c.node.trace ≤ index)

-- so is an ask answered: some receipt of it may be given that has this reply
abbrev pub IsAnswered : Config → List ℕ → Ask → Reply → Type 0
IsAnswered config seed ask reply =
    (r : Receipt) × (r.node ≡ config.node) × (r.entry.ask ≡ ask) × (r.entry.reply ≡ reply) × IsGiven config seed r

-- some lawful cell of the node refuses the ask so
abbrev pub IsRefused : Config → List ℕ → Asked → NodeFault → Type 0
IsRefused config seed ask fault = (c : Cell) × IsLawfulAt config seed c × IsRefusedBy c ask fault

-- receipts that the node gave a seat, the first one first: each lies behind the one before it, and behind as many calls
-- as the seat had made then
abbrev pub AreGivenSince : Config → List ℕ → SeatState → List Receipt → Type 0
AreGivenSince config seed seat [] = Unit {0}
AreGivenSince config seed seat (r ∷ rs) =
    IsGiven config seed r × ComesNext seat r.index × AreGivenSince config seed (called seat r.index) rs

-- the seat after the calls of these receipts
abbrev pub seat_after : SeatState → List Receipt → SeatState
seat_after seat [] = seat
seat_after seat (r ∷ rs) = seat_after (called seat r.index) rs
