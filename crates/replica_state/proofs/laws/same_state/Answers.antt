use Rattle.replica_state.proofs.KnownSets.{same_fold, same_members}
use Rattle.replica_state.proofs.laws.same_state.Goals as goal

pub returns-clause-operations : goal.returns-clause-operations
returns-clause-operations c = λ a b same. same_members a b (λ op. (same op).0) (λ op. (same op).1)

pub returns-clause-known : goal.returns-clause-known
returns-clause-known c = same_fold
