-- Traces: the accepted calls of a node, and what they come to.
use Rattle.std.specs.Prelude.{◌≡◌, ◌⊎◌, ℕ, ◌+◌, nat_lt, cond, List, [], ◌∷◌, ◌++◌, length, map, slice_get, Option, Some, None}
use Rattle.history.specs.Histories.{Calls}
use Rattle.replica_state.specs.Deltas.{IsDelta}
use Rattle.replica_state.specs.States.{State}
use Rattle.node_steps.specs.declared.config.Config.{Config}
use Rattle.node_calls.specs.declared.fault.NodeFault.{NodeFault}
use Rattle.node_calls.specs.declared.fault.NodeFault.TheVariants.{OutOfMemory}
use Rattle.node_calls.specs.declared.trace.Entry.{Entry}
use Rattle.node_calls.specs.Asks.{Asked, Answered, Call, Versions, bare_emit, call, call_from, emit_of, message_read}
use Rattle.node_calls.specs.Asks as asks
use Rattle.node_steps.specs.Nodes.{Node, Marks, start, state_shown}
use Rattle.node_core.specs.Steps.{after, reply}
use Rattle.node_steps.specs.Refusals.{refusal_at}

-- what the calls of a trace come to, the first call first
unfoldable pub replay_from : ℕ → Node → List Call → Node
replay_from i n [] = n
replay_from i n (c ∷ cs) = replay_from i (after i n c.ask c.words) cs

abbrev pub replay : ℕ → List Call → Node
replay i trace = replay_from i start trace

-- a node as its callers see it: its configuration and the trace of its whole life, which tell all that it holds;
-- and how many of the first calls it no longer keeps
pub record Kept : Type 0 where
  pub config : Config
  pub trace : List Call
  pub from : ℕ

-- a node that has accepted no call
abbrev pub new_kept : Config → Kept
new_kept config = record { config = config; trace = []; from = 0 }

-- the node that a configuration tells of, and what the calls of its life tell
abbrev pub kept_of : Config → Calls → Kept
kept_of config calls =
    record { config = config; trace = map (call_from config.nodes) calls.all; from = calls.from }

-- with one more call; and where it no longer keeps those that it kept
abbrev pub with_call : Kept → Call → Kept
with_call k c = record { config = k.config; trace = k.trace ++ c ∷ []; from = k.from }

abbrev pub without_kept : Kept → Kept
without_kept k = record { config = k.config; trace = k.trace; from = length k.trace }

-- a call that it keeps, by its number
abbrev pub call_kept : Kept → ℕ → Option Call
call_kept k index = cond (nat_lt index k.from) None (slice_get k.trace index)

-- an entry of its trace as a call
abbrev pub call_of : Kept → Entry → Call
call_of k entry = call k.config.nodes entry

abbrev pub node_of : Kept → Node
node_of k = replay k.config.node k.trace

-- what it knows, as a state, and the greatest clock that it knows of
abbrev pub state_known : Kept → State
state_known k = state_shown (node_of k)

abbrev pub last_clock : Kept → ℕ
last_clock k = (node_of k).marks.clock

-- why the next ask is refused, if it is; the entry of an accepted one; and the node after it
abbrev pub refusal : Kept → Asked → List ℕ → Option NodeFault
refusal k ask words = refusal_at k.config (length k.trace) (node_of k) ask words

abbrev pub reply_to : Kept → Asked → List ℕ → Answered
reply_to k ask words = reply k.config.node (node_of k) ask words

abbrev pub entry_for : Kept → Asked → List ℕ → Call
entry_for k ask words = record { ask = ask; words = words; reply = reply_to k ask words }

abbrev pub after_call : Kept → Asked → List ℕ → Kept
after_call k ask words = with_call k (entry_for k ask words)

-- an ask is accepted: nothing refuses it, this is the step's reply, and the node is then the one after it
abbrev pub Accepts : Kept → Kept → Asked → List ℕ → Answered → Type 0
Accepts k new ask words answer =
    (refusal k ask words ≡ None) × (reply_to k ask words ≡ answer) × (new ≡ after_call k ask words)

-- an ask is refused so: by its first refusal, or as out of memory
abbrev pub IsRefusalOf : Kept → Asked → List ℕ → NodeFault → Type 0
IsRefusalOf k ask words fault = (fault ≡ OutOfMemory) ⊎ (refusal k ask words ≡ Some fault)

-- the ask of a delivery of these bytes, and of an emit whose reply these bytes are
abbrev pub delivery_of : Kept → List ℕ → Asked
delivery_of k bytes = asks.Deliver (message_read k.config.nodes bytes)

abbrev pub emission_of : Kept → ℕ → List ℕ → Asked
emission_of k to bytes = emit_of to (message_read k.config.nodes bytes)

-- an emit to a node is accepted, and these are the bytes of the message
abbrev pub Emits : Kept → Kept → ℕ → List ℕ → Type 0
Emits k new to bytes =
    (refusal k (bare_emit to) [] ≡ None) ×
    (reply_to k (emission_of k to bytes) [] ≡ asks.IsEmitted (message_read k.config.nodes bytes)) ×
    (new ≡ after_call k (emission_of k to bytes) [])

-- a call is accepted with these words, and this is its entry
abbrev pub Records : Kept → Kept → Call → List ℕ → Type 0
Records k new c words =
    (refusal k c.ask words ≡ None) × (c ≡ entry_for k c.ask words) × (new ≡ after_call k c.ask words)

-- the versions that a message tells: the node's that its receiver is known to have, the node's own, and
-- the receiver's that the node knows
abbrev pub versions_told : Marks → ℕ → Versions
versions_told marks to = record { base = marks.acked to; upto = marks.version; ack = marks.known to }

-- an emit tells these versions, and what differs between the state at the version that its receiver is
-- known to have and the state now
abbrev pub SendsDelta : Node → Asked → Type 0
SendsDelta n (asks.Emit to versions chosen) =
    (versions ≡ versions_told n.marks to) × IsDelta (n.past versions.base) (state_shown n) chosen
SendsDelta n _ = Unit {0}

-- a trace is legal where each call of it, from the start, is accepted and has the step's reply
unfoldable pub IsLegalFrom : Config → ℕ → Node → List Call → Type 0
IsLegalFrom config entries n [] = Unit {0}
IsLegalFrom config entries n (c ∷ cs) =
    (refusal_at config entries n c.ask c.words ≡ None) × SendsDelta n c.ask ×
    (c.reply ≡ reply config.node n c.ask c.words) ×
    IsLegalFrom config (entries + 1) (after config.node n c.ask c.words) cs

abbrev pub IsLegal : Config → List Call → Type 0
IsLegal config trace = IsLegalFrom config 0 start trace
