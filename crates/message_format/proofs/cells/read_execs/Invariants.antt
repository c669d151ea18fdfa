use Rattle.std.proofs.Common.{◌≡◌}
use Rattle.stamp_register.specs.Keys.{key_value}
use Rattle.message_format.specs.Reading.{exec_at, execs_at}
use Rattle.message_format.proofs.Loop.{progress}
use Rattle.message_format.proofs.cells.read_execs.Given as goal

abbrev pub invariant-loop : goal.invariant-loop
invariant-loop l = progress (exec_at l.whole.len l.whole.nodes (key_value l.key)) l.execs.items l.count l.counter
    l.rest ≡ execs_at l.whole.len l.whole.nodes (key_value l.key) l.bytes
