-- Where the lines of a recording go, how many of them are written, and its seat.
use Rattle.std.specs.Prelude.{ℕ}
use Rattle.streams.specs.Watched.{inner_of}
use Rattle.node_registry.specs.declared.label.Label.{Ghosts}
use Rattle.node_registry.specs.Seats.{SeatState}
use Rattle.part_keeper.specs.declared.recording.Recording.{Recording}

abbrev pub out_of : {L W : Type 0} {g : Ghosts L} → Recording L W g → W
out_of r = inner_of r.journal.lines.out

abbrev pub written_of : {L W : Type 0} {g : Ghosts L} → Recording L W g → ℕ
written_of r = r.journal.calls

abbrev pub seat_of : {L W : Type 0} {g : Ghosts L} → Recording L W g → SeatState
seat_of r = r.seat
