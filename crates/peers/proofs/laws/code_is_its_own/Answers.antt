use Rattle.peers.proofs.Naming.{named}
use Rattle.peers.proofs.laws.code_is_its_own.Goals as goal

pub returns : goal.returns
returns c = named
