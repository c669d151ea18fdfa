use Rattle.cluster_model.proofs.Replays.{node_is_replay, event_is_call}
use Rattle.cluster_model.proofs.Replies.{messages_are_replies}
use Rattle.cluster_model.proofs.laws.calls.Goals as goal

pub returns-clause-node : goal.returns-clause-node
returns-clause-node c = node_is_replay

pub returns-clause-call : goal.returns-clause-call
returns-clause-call c = event_is_call

pub returns-clause-messages : goal.returns-clause-messages
returns-clause-messages c = messages_are_replies
