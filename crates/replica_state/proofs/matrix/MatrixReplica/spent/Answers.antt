use Rattle.std.proofs.Common.{◌∙◌}
use Rattle.replica_state.specs.MatrixStates.{matrix_state}
use Rattle.replica_state.proofs.StoredSlots.{spent_is}
use Rattle.replica_state.proofs.matrix.MatrixReplica.spent.Goals as goal

pub returns-in-Some : goal.returns-in-Some
returns-in-Some c = c.spent.ensures ∙ spent_is (matrix_state c.args.self.now) c.args.name.now c.in-Some.held.now
    c.in-Some.ensures.some c.args.term
