use Rattle.std.proofs.Common.{◌∙◌}
use Rattle.replica_state.specs.MatrixStates.{matrix_state}
use Rattle.replica_state.proofs.StoredSlots.{reader_shows}
use Rattle.replica_state.proofs.matrix.MatrixReplica.point.Goals as goal

pub returns : goal.returns
returns c =
    c.new.ensures
    ∙ reader_shows (matrix_state c.args.self.now) c.args.name.now c.slot_of.result c.slot_of.ensures.some
    c.slot_of.ensures.none
