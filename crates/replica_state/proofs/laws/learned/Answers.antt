use Rattle.replica_state.proofs.Reaching.{learned_with, united_both}
use Rattle.replica_state.proofs.laws.learned.Goals as goal

pub returns-clause-one : goal.returns-clause-one
returns-clause-one c = λ v w op reached formed learns. learned_with v w op formed learns reached

pub returns-clause-union : goal.returns-clause-union
returns-clause-union c = λ v w both first second unites. united_both v w both unites first second
