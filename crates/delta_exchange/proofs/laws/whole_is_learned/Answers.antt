use Rattle.delta_exchange.proofs.StateAgain.{state_again}
use Rattle.delta_exchange.proofs.laws.whole_is_learned.Goals as goal

pub returns : goal.returns
returns c = state_again
