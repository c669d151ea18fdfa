-- What a node answers that is served, by what is wanted of it.
use Rattle.std.specs.Prelude.{◌≡◌, ◌⊎◌, ℕ, ◌+◌, Bool, List, Option, Some, None}
use Rattle.node_steps.specs.declared.config.Config.{Config}
use Rattle.node_calls.specs.declared.fault.NodeFault.{NodeFault}
use Rattle.node_calls.specs.declared.receipt.Receipt.{Receipt}
use Rattle.node_calls.specs.Told.{AskTold, reply_told}
use Rattle.node_calls.specs.Asks.{asked_first, asked_from, reply_value}
use Rattle.node_core.specs.Traces.{state_known}
use Rattle.node_steps.specs.Texts.{list_text}
use Rattle.node_registry.specs.Cells.{Cell, IsLawfulAt}
use Rattle.node_registry.specs.Receipts.{IsGiven, IsReceiptOf}
use Rattle.node_registry.specs.Receipts as registry
use Rattle.node_registry.specs.Seats.{SeatState}
use Rattle.report_text.specs.Json.{report_json_text}
use Rattle.report_text.specs.Status.{status_json_text}
use Rattle.report_text.specs.declared.peer_rows.PeerRow.{PeerRow}
use Rattle.http_routes.specs.Asked.{NodeRequestValue}
use Rattle.http_routes.specs.Replies.{ReplyValue, IsReply, no_memory, text_reply}
use Rattle.http_routes.specs.Answers.{head_of}
use Rattle.http_routes.specs.Replies.{acceptance_value, refusal_value}
use Rattle.http_routes.specs.Requests.{WantedValue, wanted_of}
use Rattle.http_routes.specs.Requests as wants
use Rattle.http_serve.specs.Spreads.{IsSpreadFrom, IsSpreadServed}

-- some lawful node of this configuration and seed accepts the ask, and the reply is what it answers, always
pub record IsMade (config : Config) (seed : List ℕ) (ask : AskTold) (given : ReplyValue) : Type 0 where
  pub receipt : Receipt
  pub accepted : IsGiven config seed receipt
  pub asked : IsReceiptOf config (asked_from config.nodes ask (reply_told receipt.entry.reply)) receipt
  pub told : given ≡ acceptance_value (reply_value config.nodes receipt.entry.reply)

-- some lawful node refuses the ask, and the reply says why
pub record IsRefused (config : Config) (seed : List ℕ) (ask : AskTold) (given : ReplyValue) : Type 0 where
  pub fault : NodeFault
  pub refused : registry.IsRefused config seed (asked_first config.nodes ask) fault
  pub told : IsReply (refusal_value fault) given

-- some lawful node has this status, which shows these other nodes, if they are given
abbrev pub IsStatus : Config → List ℕ → Option (List PeerRow) → ReplyValue → Type 0
IsStatus config seed peers given =
    (c : Cell) × IsLawfulAt config seed c
    × IsReply (text_reply 200 (status_json_text (head_of c.node) (state_known c.node) peers)) given

-- a request for the status is answered so, by the other nodes that it shows
abbrev pub ShowsPeers : Config → List ℕ → List PeerRow → ReplyValue → Type 0
ShowsPeers config seed peers given = IsStatus config seed (Some peers) given

-- what is wanted of a node of this configuration comes to this reply
abbrev pub Comes : Config → List ℕ → Bool → ℕ → WantedValue → ReplyValue → Type 0
Comes config seed keeps seats (wants.call ask) given = IsMade config seed ask given ⊎ IsRefused config seed ask given
Comes config seed keeps seats wants.list given =
    (c : Cell) × IsLawfulAt config seed c × IsReply (text_reply 200 (list_text (state_known c.node))) given
Comes config seed keeps seats wants.report given =
    (c : Cell) × IsLawfulAt config seed c
    × IsReply (text_reply 200 (report_json_text (state_known c.node) config.nodes)) given
Comes config seed keeps seats wants.status given = IsStatus config seed None given
Comes config seed keeps seats (wants.sets_spread name text) given =
    IsSpreadServed config seed keeps seats (wants.sets_spread name text) given
Comes config seed keeps seats (wants.spreads name) given =
    IsSpreadServed config seed keeps seats (wants.spreads name) given
Comes config seed keeps seats (wants.answered reply) given = IsReply reply given

-- the same; or memory was refused before anything was asked
abbrev pub IsServed : Config → List ℕ → Bool → ℕ → WantedValue → ReplyValue → Type 0
IsServed config seed keeps seats wanted given = Comes config seed keeps seats wanted given ⊎ (given ≡ no_memory)

-- The same from a seat, as it was and as it is then: an accepted call is counted, and is answered as one, always; where
-- there is another reply, no call was made. Of a spread each call is counted
abbrev pub IsServedFrom : Config → List ℕ → Bool → ℕ → SeatState → SeatState → WantedValue → ReplyValue → Type 0
IsServedFrom config seed keeps seats had has (wants.call ask) given =
    (IsMade config seed ask given × (has.calls ≡ had.calls + 1))
    ⊎ ((IsRefused config seed ask given ⊎ (given ≡ no_memory)) × (has.calls ≡ had.calls))
IsServedFrom config seed keeps seats had has (wants.sets_spread name text) given =
    IsSpreadFrom config seed keeps seats had has (wants.sets_spread name text) given
IsServedFrom config seed keeps seats had has (wants.spreads name) given =
    IsSpreadFrom config seed keeps seats had has (wants.spreads name) given
IsServedFrom config seed keeps seats had has wanted given =
    IsServed config seed keeps seats wanted given × (has.calls ≡ had.calls)

-- a request is answered so, by what it asks for and its body
abbrev pub AnswersRequest : Config → List ℕ → Bool → ℕ → NodeRequestValue → List ℕ → ReplyValue → Type 0
AnswersRequest config seed keeps seats request body given =
    IsServed config seed keeps seats (wanted_of request body) given

-- and so from a seat
abbrev pub AnswersRequestFrom : Config → List ℕ → Bool → ℕ → SeatState → SeatState → NodeRequestValue → List ℕ →
    ReplyValue → Type 0
AnswersRequestFrom config seed keeps seats had has request body given =
    IsServedFrom config seed keeps seats had has (wanted_of request body) given
