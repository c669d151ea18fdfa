use Rattle.replica_state.specs.MatrixStates.{matrix_state}
use Rattle.replica_state.proofs.StoredSlots.{rights_are}
use Rattle.replica_state.proofs.Marks.{marks_same}
use Rattle.replica_state.proofs.matrix.MatrixReplica.key_and_rights.Goals as goal

pub returns-in-Some-clause-rights : goal.returns-in-Some-clause-rights
returns-in-Some-clause-rights c = marks_same c.key_and_rights.result _ _
    (λ term. rights_are (matrix_state c.args.self.now) c.args.name.now c.in-Some.held.now c.in-Some.ensures.some term
    c.args.node) c.key_and_rights.ensures.rights
