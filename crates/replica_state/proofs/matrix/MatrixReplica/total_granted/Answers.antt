use Rattle.std.proofs.Common.{sym, ◌∙◌}
use Rattle.replica_state.specs.MatrixStates.{matrix_state}
use Rattle.replica_state.proofs.StoredSlots.{grants_are, no_grants}
use Rattle.replica_state.proofs.matrix.MatrixReplica.total_granted.Goals as goal

pub returns-in-Some : goal.returns-in-Some
returns-in-Some c = c.total_granted.ensures ∙ grants_are (matrix_state c.args.self.now) c.args.name.now
    c.in-Some.held.now c.in-Some.ensures.some c.args.term

pub returns-in-None : goal.returns-in-None
returns-in-None c = sym (no_grants (matrix_state c.args.self.now) c.args.name.now c.in-None.ensures.none c.args.term)
