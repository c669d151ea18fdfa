-- Why messages are refused, by the fault that a reply carries.
use Rattle.std.specs.Prelude.{◌==◌, if◌then◌else◌, Option, Some, None, Result, Ok, Err}
use Rattle.node_calls.specs.declared.fault.NodeFault.{NodeFault}
use Rattle.node_calls.specs.declared.fault.NodeFault.TheVariants as faults
use Rattle.http_routes.specs.Replies.{ReplyValue}
use Rattle.report_text.specs.declared.peer_rows.RejectCode.{RejectCode}
use Rattle.report_text.specs.declared.peer_rows.RejectCode.TheVariants.{TraceFull, BadMessage, NotForMe, OwnAhead, AckAhead, Overspent, OutOfMemory, TooManyPoints}
use Rattle.peers.specs.declared.code.Outcome.{Outcome}
use Rattle.peers.specs.declared.code.Outcome.TheVariants.{Accepted, Refused, Untold}

-- the code of a fault, if a message may be refused so
abbrev pub code_of : NodeFault → Option RejectCode
code_of faults.TraceFull = Some TraceFull
code_of faults.TooManyPoints = Some TooManyPoints
code_of (faults.BadMessage fault) = Some BadMessage
code_of faults.NotForMe = Some NotForMe
code_of faults.OwnAhead = Some OwnAhead
code_of faults.AckAhead = Some AckAhead
code_of faults.Overspent = Some Overspent
code_of faults.OutOfMemory = Some OutOfMemory
code_of _ = None

abbrev pub refused_by : Option RejectCode → Outcome
refused_by (Some code) = Refused code
refused_by None = Untold

-- what a message came to by the fault of a reply that doesn't accept it
abbrev pub unaccepted : Option NodeFault → Outcome
unaccepted (Some fault) = refused_by (code_of fault)
unaccepted None = Untold

-- what a message came to by what the node returned
abbrev pub outcome_by : {X : Type 0} → Result X NodeFault → Outcome
outcome_by (Ok done) = Accepted
outcome_by (Err fault) = unaccepted (Some fault)

-- what a message came to by the reply to it
abbrev pub outcome_of : ReplyValue → Outcome
outcome_of reply = if reply.status == 200 then Accepted else unaccepted reply.fault
