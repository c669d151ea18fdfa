use Rattle.audit.specs.Boards.{has_sent}
use Rattle.audit.proofs.sent.Sent.has.Goals as goal

pub returns : goal.returns
unfolding has_sent
returns c = c.contains.ensures
