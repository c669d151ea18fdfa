use Rattle.replica_state.proofs.NamesHeld.{names_are_held}
use Rattle.replica_state.proofs.laws.named.Goals as goal

pub returns : goal.returns
returns c = names_are_held
