-- What a replica holds of a point, by what it stores of it.
use Rattle.std.specs.Prelude.{Option, Some, None}
use Rattle.std.specs.Borrow.{Bor}
use Rattle.replica_state.specs.Points.{Held, empty_held}
use Rattle.replica_state.specs.declared.reader.PointReader.{PointReader}

-- what is held of a name of which this is stored, or nothing
abbrev pub stored_held : {S : Type 0} → (S → Held) → Option (Bor S) → Held
stored_held held None = empty_held
stored_held held (Some stored) = held stored.now

abbrev pub reader_held : {S : Type 0} → (S → Held) → PointReader S → Held
reader_held held reader = stored_held held reader.stored
