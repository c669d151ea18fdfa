-- A world as its callers see it, what they ask of it, what it answers, and the world after that.
use Rattle.std.specs.Prelude.{ℕ, Bool, true, false, List, [], ◌∷◌, ◌++◌, map, Option, Some, None, option_map, option_and_then, Result, Ok, Err, slice_get, slice_set}
use Rattle.std.specs.List.{range_with_len}
use Rattle.node_calls.specs.declared.fault.NodeFault.{NodeFault}
use Rattle.node_calls.specs.declared.reply.Reply.{Reply}
use Rattle.node_calls.specs.Told.{AskTold, ask_ref_told}
use Rattle.node_calls.specs.Told as told
use Rattle.node_calls.specs.Asks.{Asked, Answered, Call, Message, asked_with, emit_of, message_of, reply_value}
use Rattle.node_calls.specs.Asks as asks
use Rattle.node_core.specs.Emissions.{message_emitted}
use Rattle.node_core.specs.Lasts.{last_call}
use Rattle.node_core.specs.Traces.{Kept, after_call, new_kept, node_of, refusal, reply_to}
use Rattle.cluster_model.specs.declared.event.Event as code
use Rattle.cluster_model.specs.declared.event.Event.TheVariants as events
use Rattle.cluster_model.specs.declared.fault.WorldFault.{WorldFault}
use Rattle.cluster_model.specs.declared.fault.WorldFault.TheVariants.{NoNode, NoMessage, Refused}
use Rattle.cluster_model.specs.Worlds.{Cluster, Event, config_of, sent}

-- its nodes by their numbers, and the messages that they made, the first of them first
pub record WorldValue : Type 0 where
  pub nodes : List Kept
  pub messages : List Message

-- of a cluster none of whose nodes has accepted a call
abbrev pub new_node : Cluster → ℕ → Kept
new_node c i = new_kept (config_of c i)

abbrev pub new_world : Cluster → WorldValue
new_world c = record { nodes = map (new_node c) (range_with_len 0 c.nodes); messages = [] }

-- what a node is asked: a call, with the random draws of a pass, or a delivery of a message by the
-- number that it has among all that were made
pub data EventValue : Type 0 where
  calls : (node : ℕ) (ask : AskTold) (words : List ℕ) → EventValue
  delivers : (node message : ℕ) → EventValue

-- an event of the code, without where its texts lie in memory
abbrev pub event_value : code.Event → EventValue
event_value (events.Call node ask words) = calls node (ask_ref_told ask) words.items
event_value (events.Deliver node message) = delivers node message

abbrev pub node_asked : EventValue → ℕ
node_asked (calls node ask words) = node
node_asked (delivers node message) = node

abbrev pub words_given : EventValue → List ℕ
words_given (calls node ask words) = words
words_given (delivers node message) = []

-- the message that a node makes to another
abbrev pub message_made : Kept → ℕ → Message
message_made k to = message_of (message_emitted k to)

-- whether a call makes a message, or brings one
abbrev pub has_message : AskTold → Bool
has_message (told.emits to) = true
has_message (told.delivers bytes) = true
has_message _ = false

-- what a call asks of its node: an emit tells what differs. Bytes are delivered by no call, since a
-- cluster knows its messages by their numbers
abbrev pub call_asked : Kept → AskTold → Option Asked
call_asked k (told.delivers bytes) = None
call_asked k ask = Some (asked_with k.config.nodes (λ to. emit_of to (Ok (message_made k to))) ask)

-- what an event asks of its node, if there is the message that it names: a delivery brings what was made
abbrev pub asked_by : List Message → Kept → EventValue → Option Asked
asked_by messages k (calls node ask words) = call_asked k ask
asked_by messages k (delivers node message) =
    option_map (λ m. asks.Deliver (Ok m)) (slice_get messages message)

-- ---- the answer

abbrev pub Answer : Type 0
Answer = Result Answered WorldFault

-- an answer of the code, in a world of so many nodes
abbrev pub answer_value : ℕ → Result Reply WorldFault → Answer
answer_value nodes (Ok reply) = Ok (reply_value nodes reply)
answer_value nodes (Err fault) = Err fault

-- what a node refuses, and else its reply
abbrev pub refused_or : Option NodeFault → Answered → Answer
refused_or None reply = Ok reply
refused_or (Some fault) reply = Err (Refused fault)

abbrev pub answer_to : Kept → List ℕ → Option Asked → Answer
answer_to k words None = Err NoMessage
answer_to k words (Some ask) = refused_or (refusal k ask words) (reply_to k ask words)

abbrev pub answer_at : List Message → EventValue → Option Kept → Answer
answer_at messages e None = Err NoNode
answer_at messages e (Some k) = answer_to k (words_given e) (asked_by messages k e)

-- that of its node, if there is one, and if there is the message that it names
unfoldable pub answer : WorldValue → EventValue → Answer
answer w e = answer_at w.messages e (slice_get w.nodes (node_asked e))

-- ---- the world after an event that is accepted

-- its node has made the call, and the message that it sent stands behind the other messages
abbrev pub after_asked : WorldValue → EventValue → Kept → Option Asked → WorldValue
after_asked w e k None = w
after_asked w e k (Some ask) = record {
  nodes = slice_set w.nodes (node_asked e) (after_call k ask (words_given e));
  messages = w.messages ++ sent k.config.node (node_of k) (Some ask);
}

abbrev pub after_at : WorldValue → EventValue → Option Kept → WorldValue
after_at w e None = w
after_at w e (Some k) = after_asked w e k (asked_by w.messages k e)

unfoldable pub world_after : WorldValue → EventValue → WorldValue
world_after w e = after_at w e (slice_get w.nodes (node_asked e))

-- ---- the event of a schedule that it is

abbrev pub scheduled_of : EventValue → Option Asked → List Event
scheduled_of e None = []
scheduled_of e (Some ask) = record { node = node_asked e; ask = ask; words = words_given e } ∷ []

abbrev pub scheduled_at : List Message → EventValue → Option Kept → List Event
scheduled_at messages e None = []
scheduled_at messages e (Some k) = scheduled_of e (asked_by messages k e)

unfoldable pub scheduled : WorldValue → EventValue → List Event
scheduled w e = scheduled_at w.messages e (slice_get w.nodes (node_asked e))

-- ---- the reply of the last call that a node accepted

abbrev pub last_reply : WorldValue → ℕ → Option Answered
last_reply w i =
    option_map (λ (c : Call). c.reply) (option_and_then (λ (k : Kept). last_call k.trace) (slice_get w.nodes i))
