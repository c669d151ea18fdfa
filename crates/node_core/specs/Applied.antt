-- Calls that are given as values.
use Rattle.node_calls.specs.declared.fault.NodeFault.{NodeFault}
use Rattle.node_calls.specs.declared.fault.NodeFault.TheVariants as faults
use Rattle.node_calls.specs.declared.reply.Reply.{Reply}
use Rattle.node_calls.specs.declared.reply.Reply.TheVariants as replies
use Rattle.node_calls.specs.Told.{AskTold, emits}
use Rattle.node_core.specs.Traces.{Kept}
use Rattle.node_core.specs.Deliveries.{TellsDelta}

-- why a delivery that is refused so is refused with words
abbrev pub delivery_refused_with : NodeFault → NodeFault
delivery_refused_with faults.TraceFull = faults.TraceFull
delivery_refused_with faults.TooManyPoints = faults.TooManyPoints
delivery_refused_with faults.OutOfMemory = faults.OutOfMemory
delivery_refused_with _ = faults.BadWords 0

-- the reply to an emit tells what differs from what the receiver has
abbrev pub TellsIfEmit : Kept → AskTold → Reply → Type 0
TellsIfEmit k (emits to) (replies.Emit bytes) = TellsDelta k to bytes.items
TellsIfEmit k (emits to) _ = ⊥
TellsIfEmit k _ reply = Unit {0}
