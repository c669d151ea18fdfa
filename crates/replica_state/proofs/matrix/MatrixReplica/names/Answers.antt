use Rattle.std.proofs.Common.{sym, ◌∙◌}
use Rattle.std.proofs.lemmas.Map.Entries.{length-keys_of}
use Rattle.replica_state.specs.Slots.{shown_slots}
use Rattle.replica_state.specs.MatrixStates.{matrix_state}
use Rattle.replica_state.proofs.matrix.MatrixReplica.names.Goals as goal

pub returns : goal.returns
unfolding matrix_state shown_slots
returns c = c.len.ensures.value ∙ sym (length-keys_of c.args.self.now.slots)
