use Rattle.counters.proofs.Conserved.{remaining_and_spent}
use Rattle.replica_state.proofs.laws.conserved.Goals as goal

pub returns : goal.returns
returns c = λ v name term b held below. remaining_and_spent b below
