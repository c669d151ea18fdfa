use Rattle.replica_state.proofs.KnownSets.{union_above_left, union_above_right, union_least}
use Rattle.replica_state.proofs.laws.union_is_least.Goals as goal

pub returns : goal.returns
returns c = λ a b. (union_above_left a b, union_above_right a b, union_least a b)
