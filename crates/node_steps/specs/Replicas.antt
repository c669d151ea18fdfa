-- What a node's replica stands for. Below the node its type is named here alone: all else goes by the trait
-- of replicas.
use Rattle.replica_state.specs.declared.matrix.Matrix.{Matrix}
use Rattle.replica_state.specs.States.{State}
use Rattle.replica_state.specs.MatrixStates.{matrix_state}
use Rattle.replica_state.specs.Points.{Held}
use Rattle.replica_state.specs.Slots.{slot_held}
use Rattle.replica_state.specs.Stored.{reader_held}
use Rattle.replica_state.specs.declared.reader.PointReader.{PointReader}
use Rattle.replica_state.specs.declared.slot.Slot.{Slot}

abbrev pub state_in : Matrix → State
state_in replica = matrix_state replica

-- what is held of a point that was looked up
abbrev pub point_held : PointReader Slot → Held
point_held reader = reader_held slot_held reader
