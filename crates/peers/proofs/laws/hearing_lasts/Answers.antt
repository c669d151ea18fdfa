use Rattle.peers.proofs.Lasting.{lasts}
use Rattle.peers.proofs.laws.hearing_lasts.Goals as goal

pub returns : goal.returns
returns c = lasts
