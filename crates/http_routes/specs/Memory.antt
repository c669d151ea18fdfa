-- Which requests need memory, once there is room for their reply.
use Rattle.std.specs.Prelude.{◌≡◌, ◌⊎◌, [], Bool, true, false, Some}
use Rattle.node_calls.specs.declared.fault.NodeFault.{NodeFault}
use Rattle.node_calls.specs.declared.fault.NodeFault.TheVariants as faults
use Rattle.node_calls.specs.Told as tells
use Rattle.node_calls.specs.Told.{AskTold}
use Rattle.node_calls.specs.Asks.{asked_first}
use Rattle.node_core.specs.Memory.{DeliveryNeedsMemory, LoadNeedsMemory, NameNeedsMemory, SetNeedsMemory}
use Rattle.node_core.specs.Traces.{Kept, refusal}
use Rattle.http_routes.specs.Replies.{ReplyValue, no_memory}
use Rattle.http_routes.specs.Replies.{refusal_value}
use Rattle.http_routes.specs.Requests as wants
use Rattle.http_routes.specs.Requests.{WantedValue}

-- a reply that says that memory was refused: to the reply, or to the node
abbrev pub IsOutOfMemory : ReplyValue → Type 0
IsOutOfMemory given = (given ≡ no_memory) ⊎ (given ≡ refusal_value faults.OutOfMemory)

-- what the node needs for a call; no request asks for a pass or an emit
abbrev pub AskNeedsMemory : Kept → AskTold → Type 0
AskNeedsMemory k (tells.sets name text) = SetNeedsMemory k name text
AskNeedsMemory k (tells.removes name) = NameNeedsMemory k name
AskNeedsMemory k (tells.loads text) = LoadNeedsMemory k text
AskNeedsMemory k (tells.passes name) = Unit {0}
AskNeedsMemory k (tells.shifts name term to amount) = NameNeedsMemory k name
AskNeedsMemory k (tells.grants name term amount) = NameNeedsMemory k name
AskNeedsMemory k (tells.emits to) = Unit {0}
AskNeedsMemory k (tells.delivers bytes) = DeliveryNeedsMemory k bytes

-- a fault that holds the one of a text or of a message: its own text is written to memory of its own
abbrev pub holds_fault : NodeFault → Bool
holds_fault (faults.BadActions fault) = true
holds_fault (faults.BadMessage fault) = true
holds_fault _ = false

-- the node refuses the call so
abbrev pub IsRefusedAtLength : Kept → AskTold → Type 0
IsRefusedAtLength k ask =
    (fault : NodeFault) × (refusal k (asked_first k.config.nodes ask) [] ≡ Some fault) × (holds_fault fault ≡ true)

-- a request: its call does, or it is refused at length; the list, the report and the status are written to memory of
-- their own, and a spread takes some. What wants nothing of the node needs none
abbrev pub NeedsMemory : Kept → WantedValue → Type 0
NeedsMemory k (wants.call ask) = AskNeedsMemory k ask ⊎ IsRefusedAtLength k ask
NeedsMemory k wants.list = Unit {0}
NeedsMemory k wants.report = Unit {0}
NeedsMemory k wants.status = Unit {0}
NeedsMemory k (wants.sets_spread name text) = Unit {0}
NeedsMemory k (wants.spreads name) = Unit {0}
NeedsMemory k (wants.answered reply) = ⊥
