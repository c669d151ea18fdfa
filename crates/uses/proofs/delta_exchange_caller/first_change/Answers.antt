use Rattle.std.proofs.Common.{false, refl}
use Rattle.replica_state.specs.Folds.{fold}
use Rattle.uses.proofs.delta_exchange_caller.first_change.Goals as goal

pub set_key-requires-clause-above : goal.set_key-requires-clause-above
unfolding fold
set_key-requires-clause-above g c = rw c.new-replica.ensures refl
