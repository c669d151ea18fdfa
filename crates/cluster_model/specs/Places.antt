-- Where the messages of a world stand: each is the reply of a call in the trace of the node that made it.
use Rattle.std.specs.Prelude.{◌≡◌, ℕ, List, length, map, Option, Some, None, option_and_then, Ok, slice_get}
use Rattle.node_calls.specs.Asks.{Answered, Message, Call, IsEmitted}
use Rattle.node_steps.specs.Refusals.{message_in, nothing_told}
use Rattle.node_core.specs.Traces.{Kept}
use Rattle.cluster_model.specs.declared.world.Place.{Place}
use Rattle.cluster_model.specs.Events.{WorldValue}

-- the message of a reply, which has one if it is that of an emit
abbrev pub message_told : Answered → Message
message_told (IsEmitted read) = message_in read
message_told _ = nothing_told

abbrev pub message_of_call : Option Call → Message
message_of_call None = nothing_told
message_of_call (Some call) = message_told call.reply

abbrev pub call_at : List Kept → Place → Option Call
call_at nodes place = option_and_then (λ (k : Kept). slice_get k.trace place.entry) (slice_get nodes place.node)

abbrev pub message_at : List Kept → Place → Message
message_at nodes place = message_of_call (call_at nodes place)

-- the world of these nodes, whose messages stand there
abbrev pub world_of : List Kept → List Place → WorldValue
world_of nodes places = record { nodes = nodes; messages = map (message_at nodes) places }

-- an entry of a trace made this message
pub record IsEmitOf (trace : List Call) (entry : ℕ) (message : Message) : Type 0 where
  pub call : Call
  pub there : slice_get trace entry ≡ Some call
  pub reply : call.reply ≡ IsEmitted (Ok message)

abbrev pub IsEmit : List Call → ℕ → Type 0
IsEmit trace entry = (message : Message) × IsEmitOf trace entry message

pub record IsPlace (nodes : List Kept) (place : Place) : Type 0 where
  pub node : Kept
  pub there : slice_get nodes place.node ≡ Some node
  pub emit : IsEmit node.trace place.entry

-- each node is one of as many as there are
abbrev pub AreSizes : List Kept → Type 0
AreSizes nodes = (i : ℕ) (k : Kept) → slice_get nodes i ≡ Some k → k.config.nodes ≡ length nodes

-- each node has that size, has its number there, and keeps all its calls, and each message has its place
pub record IsWorld (nodes : List Kept) (places : List Place) : Type 0 where
  pub sizes : AreSizes nodes
  pub numbers : (i : ℕ) (k : Kept) → slice_get nodes i ≡ Some k → k.config.node ≡ i
  pub whole : (i : ℕ) (k : Kept) → slice_get nodes i ≡ Some k → k.from ≡ 0
  pub placed : (number : ℕ) (place : Place) → slice_get places number ≡ Some place → IsPlace nodes place
