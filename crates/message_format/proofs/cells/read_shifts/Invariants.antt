use Rattle.std.proofs.Common.{◌≡◌}
use Rattle.stamp_register.specs.Keys.{key_value}
use Rattle.message_format.specs.Reading.{shift_at, shifts_at}
use Rattle.message_format.proofs.Loop.{progress}
use Rattle.message_format.proofs.cells.read_shifts.Given as goal

abbrev pub invariant-loop : goal.invariant-loop
invariant-loop l = progress (shift_at l.whole.len l.whole.nodes (key_value l.key)) l.shifts.items l.count l.counter
    l.rest ≡ shifts_at l.whole.len l.whole.nodes (key_value l.key) l.bytes
