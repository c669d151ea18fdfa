-- What a node is asked and what it replies, without where texts lie in memory.
use Rattle.std.specs.Prelude.{ℕ, Bool, List, [], Result, Ok, Err}
use Rattle.stamp_register.specs.declared.key.Stamp.{Stamp}
use Rattle.operations.specs.Operations.{Operation}
use Rattle.message_format.specs.declared.fault.WireFault.{WireFault}
use Rattle.message_format.specs.Messages.{MessageValue, operations_in}
use Rattle.message_format.specs.Reading.{message_at}
use Rattle.node_calls.specs.declared.ask.Ask.{Ask}
use Rattle.node_calls.specs.declared.reply.Reply.{Reply}
use Rattle.node_calls.specs.declared.trace.Entry.{Entry}
use Rattle.node_calls.specs.Told.{Told, AskTold, ReplyTold, Passed, ask_told, reply_told, told}
use Rattle.node_calls.specs.Told as tells

-- what one node tells another: operations that it knows, the version of its own that it counts on the
-- receiver to have (base), its own version (upto), and the version of the receiver that it has (ack)
pub record Message : Type 0 where
  pub from : ℕ
  pub to : ℕ
  pub base : ℕ
  pub upto : ℕ
  pub ack : ℕ
  pub ops : List Operation

-- the versions that a message tells
pub record Versions : Type 0 where
  pub base : ℕ
  pub upto : ℕ
  pub ack : ℕ

abbrev pub no_versions : Versions
no_versions = record { base = 0; upto = 0; ack = 0 }

-- an emit asks to tell these versions and some of the operations that the node knows; a delivery brings what its
-- bytes were read as
pub data Asked : Type 0 where
  Set : (name text : List ℕ) → Asked
  Remove : (name : List ℕ) → Asked
  Load : (text : List ℕ) → Asked
  Pass : (name : List ℕ) → Asked
  Shift : (name : List ℕ) (term to amount : ℕ) → Asked
  Grant : (name : List ℕ) (term amount : ℕ) → Asked
  Emit : (to : ℕ) (versions : Versions) (chosen : List Operation) → Asked
  Deliver : (read : Result Message WireFault) → Asked

pub data Answered : Type 0 where
  IsSet : (stamp : Stamp) → Answered
  IsRemoved : (stamp : Stamp) → Answered
  IsLoaded : (entries : ℕ) → Answered
  IsPassed : (passed : Passed) → Answered
  IsShifted : (total : ℕ) → Answered
  IsGranted : (total : ℕ) → Answered
  IsEmitted : (read : Result Message WireFault) → Answered
  IsDelivered : (changed : Bool) → Answered

-- an accepted call: what was asked, with which words, and the reply
pub record Call : Type 0 where
  pub ask : Asked
  pub words : List ℕ
  pub reply : Answered

-- ---- from what an entry tells to the definitions' calls

-- a message with the operations that its entries tell
abbrev pub message_of : MessageValue → Message
message_of m = record { from = m.from; to = m.to; base = m.base; upto = m.upto; ack = m.ack; ops = operations_in m }

abbrev pub read_of : Result MessageValue WireFault → Result Message WireFault
read_of (Ok m) = Ok (message_of m)
read_of (Err fault) = Err fault

-- what bytes are read as in a cluster of so many nodes
unfoldable pub message_read : ℕ → List ℕ → Result Message WireFault
message_read nodes bytes = read_of (message_at nodes bytes)

-- the ask of an emit for which nothing was chosen yet
abbrev pub bare_emit : ℕ → Asked
bare_emit to = Emit to no_versions []

-- the ask of an emit whose reply was read as this
abbrev pub emit_of : ℕ → Result Message WireFault → Asked
emit_of to (Ok m) = Emit to (record { base = m.base; upto = m.upto; ack = m.ack }) m.ops
emit_of to (Err fault) = bare_emit to

abbrev pub emit_asked_by : ℕ → ℕ → ReplyTold → Asked
emit_asked_by nodes to (tells.was_emitted bytes) = emit_of to (message_read nodes bytes)
emit_asked_by nodes to _ = bare_emit to

-- what an ask that tells this asks, where an emit asks that
abbrev pub asked_with : ℕ → (ℕ → Asked) → AskTold → Asked
asked_with nodes emit (tells.sets name text) = Set name text
asked_with nodes emit (tells.removes name) = Remove name
asked_with nodes emit (tells.loads text) = Load text
asked_with nodes emit (tells.passes name) = Pass name
asked_with nodes emit (tells.shifts name term to amount) = Shift name term to amount
asked_with nodes emit (tells.grants name term amount) = Grant name term amount
asked_with nodes emit (tells.emits to) = emit to
asked_with nodes emit (tells.delivers bytes) = Deliver (message_read nodes bytes)

-- where the reply tells this
abbrev pub asked_from : ℕ → AskTold → ReplyTold → Asked
asked_from nodes ask reply = asked_with nodes (λ to. emit_asked_by nodes to reply) ask

-- before there is a reply: of an emit no versions and no operations are chosen yet
abbrev pub asked_first : ℕ → AskTold → Asked
asked_first nodes ask = asked_with nodes bare_emit ask

-- what a reply that tells this answers
abbrev pub answered_from : ℕ → ReplyTold → Answered
answered_from nodes (tells.was_set stamp) = IsSet stamp
answered_from nodes (tells.was_removed stamp) = IsRemoved stamp
answered_from nodes (tells.was_loaded entries) = IsLoaded entries
answered_from nodes (tells.was_passed passed) = IsPassed passed
answered_from nodes (tells.was_shifted total) = IsShifted total
answered_from nodes (tells.was_granted total) = IsGranted total
answered_from nodes (tells.was_emitted bytes) = IsEmitted (message_read nodes bytes)
answered_from nodes (tells.was_delivered changed) = IsDelivered changed

-- the call of an entry that tells this, in a cluster of so many nodes
abbrev pub call_from : ℕ → Told → Call
call_from nodes t =
    record { ask = asked_from nodes t.ask t.reply; words = t.words; reply = answered_from nodes t.reply }

-- ---- the same of the code's asks, replies and entries

abbrev pub emit_asked : ℕ → ℕ → Reply → Asked
emit_asked nodes to reply = emit_asked_by nodes to (reply_told reply)

abbrev pub ask_value : ℕ → Ask → Reply → Asked
ask_value nodes ask reply = asked_from nodes (ask_told ask) (reply_told reply)

abbrev pub ask_value_first : ℕ → Ask → Asked
ask_value_first nodes ask = asked_first nodes (ask_told ask)

abbrev pub reply_value : ℕ → Reply → Answered
reply_value nodes reply = answered_from nodes (reply_told reply)

abbrev pub call : ℕ → Entry → Call
call nodes e = call_from nodes (told e)
