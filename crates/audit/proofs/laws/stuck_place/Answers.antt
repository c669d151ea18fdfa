use Rattle.audit.proofs.Runs.{stuck_unique}
use Rattle.audit.proofs.laws.stuck_place.Goals as goal

pub returns : goal.returns
returns c = stuck_unique
