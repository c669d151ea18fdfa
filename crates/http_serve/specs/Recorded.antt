-- What a node is answered whose part is kept.
use Rattle.std.specs.Prelude.{◌≡◌, ◌⊎◌, ℕ, ◌+◌, Bool, List, Option}
use Rattle.node_calls.specs.declared.ask.Ask.{Ask}
use Rattle.node_calls.specs.declared.reply.Reply.{Reply}
use Rattle.node_calls.specs.Asks.{reply_value}
use Rattle.node_calls.specs.Told.{AskTold, ask_told}
use Rattle.node_steps.specs.declared.config.Config.{Config}
use Rattle.node_registry.specs.Seats.{SeatState}
use Rattle.http_routes.specs.Asked.{NodeRequestValue}
use Rattle.http_routes.specs.Replies.{ReplyValue, IsReply, no_memory, text_reply}
use Rattle.http_routes.specs.Replies.{acceptance_value, refusal_value}
use Rattle.http_routes.specs.Requests.{WantedValue, wanted_of}
use Rattle.http_routes.specs.Requests as wants
use Rattle.part_keeper.specs.Pieces.{Continues, HasLine}
use Rattle.part_keeper.specs.declared.fault.CallFault.{CallFault}
use Rattle.part_keeper.specs.declared.fault.CallFault.TheVariants as faults
use Rattle.http_serve.specs.Served.{IsMade, IsRefused, IsServed}
use Rattle.http_serve.specs.Spreads.{IsSpreadFrom}
use Rattle.http_serve.specs.declared.handler.recording.TheConstants.{NOT_RECORDED, RECORDING_FAILED}

-- a call that couldn't be recorded is answered so, and one that isn't made since an earlier one couldn't
abbrev pub IsNotRecorded : ReplyValue → Type 0
IsNotRecorded given = IsReply (text_reply 503 NOT_RECORDED.now) given

abbrev pub IsNotMade : ReplyValue → Type 0
IsNotMade given = IsReply (text_reply 503 RECORDING_FAILED.now) given

abbrev pub IsUnrecorded : ReplyValue → Type 0
IsUnrecorded given = IsNotRecorded given ⊎ IsNotMade given

-- why a call isn't answered is told so
abbrev pub TellsFault : CallFault → ReplyValue → Type 0
TellsFault (faults.Refused fault) given = IsReply (refusal_value fault) given
TellsFault faults.NotRecorded given = IsNotRecorded given
TellsFault faults.RecordingFailed given = IsNotMade given

-- what is wanted is answered as by a node that records nothing; or a call or a spread so
abbrev pub IsServedRecording : Config → List ℕ → Bool → ℕ → WantedValue → ReplyValue → Type 0
IsServedRecording config seed keeps seats (wants.call ask) given =
    IsServed config seed keeps seats (wants.call ask) given ⊎ IsUnrecorded given
IsServedRecording config seed keeps seats (wants.sets_spread name text) given =
    IsServed config seed keeps seats (wants.sets_spread name text) given ⊎ IsUnrecorded given
IsServedRecording config seed keeps seats (wants.spreads name) given =
    IsServed config seed keeps seats (wants.spreads name) given ⊎ IsUnrecorded given
IsServedRecording config seed keeps seats wanted given = IsServed config seed keeps seats wanted given

-- a writer that had the lines of so many calls was given the line of a call with this ask, at its number, and this is
-- the reply to that call
pub record IsWritten {W : Type 0} (contents : W → Option (List ℕ)) (old new : W) (was now : ℕ) (config : Config)
    (seed : List ℕ) (keeps : Bool) (seats : ℕ) (seat : SeatState) (ask : AskTold) (given : ReplyValue) : Type 0 where
  pub made : Ask
  pub reply : Reply
  pub asked : ask_told made ≡ ask
  pub line : HasLine contents config seed keeps seats seat old new was now made reply
  pub told : given ≡ acceptance_value (reply_value config.nodes reply)

-- A call is answered as an accepted one only where its line was written, and then it is counted once to the seat. Else
-- it couldn't be recorded; or the node refuses it, it isn't made any more, or memory was refused before it was made: then
-- none was
abbrev pub IsServedWriting : {W : Type 0} → (W → Option (List ℕ)) → W → W → ℕ → ℕ → SeatState → SeatState → Config → List ℕ →
    Bool → ℕ → AskTold → ReplyValue → Type 0
IsServedWriting contents old new was now had has config seed keeps seats ask given =
    (IsMade config seed ask given × IsWritten contents old new was now config seed keeps seats has ask given
    × (has.calls ≡ had.calls + 1))
    ⊎ (IsNotRecorded given
    ⊎ ((IsRefused config seed ask given ⊎ (IsNotMade given ⊎ (given ≡ no_memory))) × (has ≡ had)))

-- What is wanted of a spread is answered only where the lines of its calls were written, each of which is counted to the
-- seat. Else they couldn't be recorded; or none is made any more, and then none was
abbrev pub IsSpreadWriting : {W : Type 0} → (W → Option (List ℕ)) → W → W → ℕ → ℕ → SeatState → SeatState → Config → List ℕ →
    Bool → ℕ → WantedValue → ReplyValue → Type 0
IsSpreadWriting contents old new was now had has config seed keeps seats wanted given =
    (IsSpreadFrom config seed keeps seats had has wanted given
    × Continues contents config seed keeps seats has old new was now)
    ⊎ (IsNotRecorded given ⊎ (IsNotMade given × (has ≡ had)))

-- a request is answered so, by what it asks for and its body
abbrev pub AnswersRecording : Config → List ℕ → Bool → ℕ → NodeRequestValue → List ℕ → ReplyValue → Type 0
AnswersRecording config seed keeps seats request body given =
    IsServedRecording config seed keeps seats (wanted_of request body) given
