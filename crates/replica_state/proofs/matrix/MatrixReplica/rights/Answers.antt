use Rattle.std.proofs.Common.{◌∙◌}
use Rattle.std.proofs.lemmas.Int.{to_z-of_z}
use mir.Syntax.{w128}
use Rattle.replica_state.specs.MatrixStates.{matrix_state}
use Rattle.replica_state.proofs.StoredSlots.{rights_are}
use Rattle.replica_state.proofs.matrix.MatrixReplica.rights.Goals as goal

pub returns-in-Some : goal.returns-in-Some
returns-in-Some c = to_z-of_z w128 c.rights.result (record { sfits = c.rights.type_inv }) ∙ c.rights.ensures ∙
    rights_are (matrix_state c.args.self.now) c.args.name.now c.in-Some.held.now c.in-Some.ensures.some c.args.term
    c.args.node
