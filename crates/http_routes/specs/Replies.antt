-- Replies: a status, the bytes of a body, and the fault of the node that the body spells, if it spells one.
use Rattle.std.specs.Prelude.{◌≡◌, ◌⊎◌, ℕ, true, false, List, [], Option, Some, None, Result, Ok, Err, codes, decimal}
use Rattle.stamp_register.specs.Keys.{stamp_text}
use Rattle.node_calls.specs.Asks.{Answered, IsSet, IsRemoved, IsLoaded, IsPassed, IsShifted, IsGranted, IsEmitted, IsDelivered, reply_value}
use Rattle.node_calls.specs.declared.fault.NodeFault.{NodeFault}
use Rattle.node_calls.specs.declared.fault.NodeFault.TheVariants as faults
use Rattle.node_calls.specs.declared.reply.Reply.{Reply}
use Rattle.node_calls.specs.FaultText.{node_fault_text}
use Rattle.http_routes.specs.Asked.{fault_status, fault_text}
use Rattle.http_routes.specs.declared.request.RequestFault.{RequestFault}
use Rattle.http_routes.specs.declared.http_reply.HttpReply.{HttpReply}

pub record ReplyValue : Type 0 where
  pub status : ℕ
  pub body : List ℕ
  pub fault : Option NodeFault

abbrev pub http_value : HttpReply → ReplyValue
http_value r = record { status = r.status; body = r.body.items; fault = r.fault }

-- a text that is no fault of the node's
abbrev pub text_reply : ℕ → List ℕ → ReplyValue
text_reply status text = record { status = status; body = text; fault = None }

-- a fault of the node, with its own text
abbrev pub fault_reply : ℕ → NodeFault → ReplyValue
fault_reply status fault = record { status = status; body = node_fault_text fault; fault = Some fault }

-- the reply where its own memory is refused
abbrev pub no_memory : ReplyValue
no_memory = text_reply 503 []

-- the reply that says why nothing is asked
abbrev pub request_fault_reply : RequestFault → ReplyValue
request_fault_reply fault = text_reply (fault_status fault) (fault_text fault)

-- this reply, or the one where its memory was refused
abbrev pub IsReply : ReplyValue → ReplyValue → Type 0
IsReply wanted given = (given ≡ wanted) ⊎ (given ≡ no_memory)

-- ---- replies to calls

-- 400: what was sent is wrong; 409: it doesn't go with what the node holds; 503: the node can't now
abbrev pub status_of : NodeFault → ℕ
status_of faults.BadName = 400
status_of (faults.BadActions fault) = 400
status_of faults.BadNode = 400
status_of faults.ZeroAmount = 400
status_of (faults.BadMessage fault) = 400
status_of faults.NotForMe = 400
status_of faults.OwnAhead = 400
status_of faults.AckAhead = 400
status_of faults.Overspent = 400
status_of faults.TooManyPoints = 409
status_of faults.NotSet = 409
status_of faults.NoSuchTerm = 409
status_of faults.NotCounted = 409
status_of (faults.TooFewRights have) = 409
status_of _ = 503

-- the body of an accepted call
abbrev pub answered_text : Answered → List ℕ
answered_text (IsSet stamp) = stamp_text stamp
answered_text (IsRemoved stamp) = stamp_text stamp
answered_text (IsLoaded entries) = decimal entries
answered_text (IsPassed passed) = []
answered_text (IsShifted total) = decimal total
answered_text (IsGranted total) = decimal total
answered_text (IsEmitted read) = []
answered_text (IsDelivered true) = codes "changed"
answered_text (IsDelivered false) = codes "same"

abbrev pub acceptance_value : Answered → ReplyValue
acceptance_value answer = text_reply 200 (answered_text answer)

-- the reply to a rejected call, which carries the fault next to its text
abbrev pub refusal_value : NodeFault → ReplyValue
refusal_value fault = fault_reply (status_of fault) fault

-- the reply to a call at a node of so many, by what it came to
abbrev pub outcome_value : ℕ → Result Reply NodeFault → ReplyValue
outcome_value nodes (Ok reply) = acceptance_value (reply_value nodes reply)
outcome_value nodes (Err fault) = refusal_value fault
