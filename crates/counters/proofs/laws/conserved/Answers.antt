use Rattle.counters.proofs.Conserved.{remaining_and_spent}
use Rattle.counters.proofs.laws.conserved.Goals as goal

pub returns : goal.returns
returns c = remaining_and_spent
