-- What a node's replica with versions stands for.
use Rattle.replica_state.specs.declared.matrix.Matrix.{Matrix}
use Rattle.replica_state.specs.MatrixStates.{matrix_state}
use Rattle.delta_exchange.specs.declared.versioned.Versioned.{Versioned}
use Rattle.delta_exchange.specs.Versions.{VersionedValue, value_of}

abbrev pub value_in : Versioned Matrix → VersionedValue
value_in v = value_of matrix_state v
