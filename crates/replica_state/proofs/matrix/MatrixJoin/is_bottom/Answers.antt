use Rattle.replica_state.proofs.matrix.MatrixJoin.is_bottom.Goals as goal

pub returns-clause-value : goal.returns-clause-value
returns-clause-value c = c.is_bottom.ensures.value
