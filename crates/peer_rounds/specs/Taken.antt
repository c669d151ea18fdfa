-- What a round took in, and what is noted of it.
use Rattle.std.specs.Prelude.{ℕ, Bool, true, false, List, [], ◌∷◌, ◌++◌, flat_map, map, Option, Some, None}
use Rattle.std.specs.List.{range_with_len}
use Rattle.message_format.specs.Limits.{max_nodes}
use Rattle.gossip.specs.Attempts.{attempt_at}
use Rattle.gossip.specs.declared.failures.Attempt.{Attempt}
use Rattle.gossip.specs.declared.failures.Attempt.TheVariants as attempts
use Rattle.gossip.specs.declared.failures.AttemptFault.{AttemptFault}
use Rattle.gossip.specs.declared.failures.AttemptFault.TheVariants as why
use Rattle.gossip.specs.declared.wire.WireError.TheVariants as errors
use Rattle.peers.specs.declared.heard.NotedAttempt.{NotedAttempt}
use Rattle.report_text.specs.declared.peer_rows.SendFault.{SendFault}
use Rattle.report_text.specs.declared.peer_rows.SendFault.TheVariants as faults_of_sends
use Rattle.std.specs.Result.{result_err}
use Rattle.node_calls.specs.declared.fault.NodeFault.{NodeFault}
use Rattle.node_calls.specs.declared.fault.NodeFault.TheVariants as faults
use Rattle.node_calls.specs.declared.receipt.Receipt.{Receipt}
use Rattle.gossip.specs.declared.failures.Rejected.{Rejected}
use Rattle.gossip.specs.declared.report.GossipReport.{GossipReport}
use Rattle.gossip.specs.Carried.{deliveries_in}
use Rattle.gossip_pace.specs.Senders.{sender_of}
use Rattle.http_peers.specs.declared.shared.NotedDelivery.{NotedDelivery}

-- a message: the node that it says it is of, and why it was rejected, if it was
abbrev pub Taken : Type 0
Taken = Option ℕ × Option NodeFault

-- what was noted of one
abbrev pub taken_as : NotedDelivery → Taken
taken_as noted = (noted.sender, result_err noted.returned)

-- the messages among the receipts of accepted calls, and those that were rejected
abbrev pub accepted_as : List ℕ → Taken
accepted_as message = (sender_of message, None)

abbrev pub accepted_in : List Receipt → List Taken
accepted_in receipts = map accepted_as (deliveries_in receipts)

abbrev pub rejected_as : Rejected → Taken
rejected_as rejected = (rejected.sender, Some rejected.fault)

-- those that a round took in
abbrev pub taken_in : GossipReport → List Taken
taken_in report = accepted_in report.receipts.items ++ map rejected_as report.rejected.items

-- ---- what came of the messages that were due

-- why nothing was sent to a node, as a status says it
abbrev pub fault_of : AttemptFault → SendFault
fault_of why.Unreached = faults_of_sends.Unreached
fault_of (why.NotMade fault) = faults_of_sends.NotMade
fault_of (why.NotSent errors.Full) = faults_of_sends.Full
fault_of (why.NotSent errors.NoPeer) = faults_of_sends.NoPeer
fault_of (why.NotSent errors.Failed) = faults_of_sends.Failed
fault_of (why.NotSent errors.OutOfMemory) = faults_of_sends.OutOfMemory

abbrev pub noted_as : ℕ → Option SendFault → NotedAttempt
noted_as node fault = record { node = node; fault = fault }

-- what is noted of a node
abbrev pub attempted : ℕ → Attempt → List NotedAttempt
attempted node attempts.NotDue = []
attempted node attempts.Sent = noted_as node None ∷ []
attempted node (attempts.Failed why) = noted_as node (Some (fault_of why)) ∷ []

-- and of all, in order
abbrev pub attempts_in : List Attempt → List NotedAttempt
attempts_in all = flat_map (λ node. attempted node (attempt_at all node)) (range_with_len 0 max_nodes)
