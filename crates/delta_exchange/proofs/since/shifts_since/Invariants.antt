use Rattle.std.proofs.Common.{◌≡◌, ◌++◌}
use Rattle.std.specs.List.{flat_map}
use Rattle.replica_state.specs.Stored.{reader_held}
use Rattle.delta_exchange.specs.Cells.{ShiftsFit}
use Rattle.delta_exchange.specs.Since.{shift_of, later, shifts_since}
use Rattle.delta_exchange.proofs.since.shifts_since.Given as goal

abbrev pub invariant-loop-counted : goal.invariant-loop-counted
invariant-loop-counted g l = record {
  fit : ShiftsFit l.shifts.items;
  cells : l.shifts.items ++ flat_map (later l.marks l.base (shift_of (reader_held g.S.Stored.held l.held)))
      l.counted-iterator ≡ shifts_since (reader_held g.S.Stored.held l.held) l.base l.marks;
}
