use Rattle.std.proofs.Common.{sym, ◌∙◌}
use Rattle.replica_state.specs.MatrixStates.{matrix_state}
use Rattle.replica_state.proofs.StoredSlots.{hits_are, no_hits}
use Rattle.replica_state.proofs.matrix.MatrixReplica.total_hits.Goals as goal

pub returns-in-Some : goal.returns-in-Some
returns-in-Some c = c.total_hits.ensures ∙ hits_are (matrix_state c.args.self.now) c.args.name.now c.in-Some.held.now
    c.in-Some.ensures.some

pub returns-in-None : goal.returns-in-None
returns-in-None c = sym (no_hits (matrix_state c.args.self.now) c.args.name.now c.in-None.ensures.none)
