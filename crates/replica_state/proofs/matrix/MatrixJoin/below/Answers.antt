use Rattle.replica_state.proofs.matrix.MatrixJoin.below.Goals as goal

pub returns-clause-value : goal.returns-clause-value
returns-clause-value c = c.below.ensures.value
