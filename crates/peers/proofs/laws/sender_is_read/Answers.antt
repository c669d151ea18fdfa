use Rattle.peers.proofs.Senders.{sender}
use Rattle.peers.proofs.laws.sender_is_read.Goals as goal

pub returns : goal.returns
returns c = sender
