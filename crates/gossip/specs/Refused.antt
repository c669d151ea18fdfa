-- Which refusals are counted, and what a report tells of the messages that were rejected or not sent.
use Rattle.std.specs.Prelude.{ℕ, Bool, true, false, List, [], ◌∷◌, count_by, if◌then◌else◌, Option, Result, Ok, Err}
use Rattle.std.specs.List.{flat_map}
use Rattle.node_calls.specs.declared.ask.Ask.{Ask}
use Rattle.node_calls.specs.declared.ask.Ask.TheVariants as asks
use Rattle.node_calls.specs.declared.fault.NodeFault.{NodeFault}
use Rattle.node_calls.specs.declared.fault.NodeFault.TheVariants as faults
use Rattle.node_registry.specs.Refusals.{Refusal}
use Rattle.gossip.specs.declared.failures.Failed.{Failed}
use Rattle.gossip.specs.declared.failures.Rejected.{Rejected}
use Rattle.gossip.specs.declared.wire.WireError.{WireError}
use Rattle.gossip_pace.specs.Senders.{sender_of}

-- a refusal is counted, but for one as out of memory
abbrev pub is_counted : NodeFault → Bool
is_counted faults.OutOfMemory = false
is_counted _ = true

abbrev pub refused_of : List Refusal → ℕ
refused_of refusals = count_by (λ refusal. is_counted refusal.1) refusals

-- a message of this sender that was refused so: it was rejected, unless memory was out
abbrev pub rejected_as : Option ℕ → NodeFault → Rejected
rejected_as sender fault = record { sender = sender; fault = fault }

abbrev pub rejection_of : Option ℕ → NodeFault → List Rejected
rejection_of sender fault = if is_counted fault then rejected_as sender fault ∷ [] else []

-- the messages that were rejected among refusals, in their order: of each delivery its sender, and why
abbrev pub rejection_in : Ask → NodeFault → List Rejected
rejection_in (asks.Deliver message) fault = rejection_of (sender_of message.items) fault
rejection_in _ fault = []

abbrev pub rejected_of : List Refusal → List Rejected
rejected_of refusals = flat_map (λ refusal. rejection_in refusal.0 refusal.1) refusals

-- a message to this node that couldn't be sent
abbrev pub failed_as : ℕ → WireError → Failed
failed_as to why = record { peer = to; why = why }

-- what is told of a message by what sending it came to
abbrev pub failure_of : {X : Type 0} → ℕ → Result X WireError → List Failed
failure_of to (Ok done) = []
failure_of to (Err why) = failed_as to why ∷ []
