use Rattle.cluster_model.proofs.DeltaMessages.{delta_messages, delta_message_bytes}
use Rattle.cluster_model.proofs.HonestBytes.{honest_messages, honest_bytes}
use Rattle.cluster_model.proofs.laws.honest.Goals as goal

pub returns-clause-messages : goal.returns-clause-messages
returns-clause-messages r = honest_messages

pub returns-clause-bytes : goal.returns-clause-bytes
returns-clause-bytes r = honest_bytes

pub returns-clause-deltas : goal.returns-clause-deltas
returns-clause-deltas r = delta_messages

pub returns-clause-delta_bytes : goal.returns-clause-delta_bytes
returns-clause-delta_bytes r = delta_message_bytes
