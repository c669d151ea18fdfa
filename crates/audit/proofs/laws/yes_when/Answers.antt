use Rattle.audit.proofs.Exact.{yes_when}
use Rattle.audit.proofs.laws.yes_when.Goals as goal

pub returns : goal.returns
returns c = yes_when
