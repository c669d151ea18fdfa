use Rattle.std.proofs.Common.{◌≡◌, map}
use Rattle.message_format.specs.Messages.{entry_value}
use Rattle.message_format.specs.Reading.{entry_at, entries_at}
use Rattle.message_format.proofs.Loop.{progress}
use Rattle.message_format.proofs.reading.read_entries.Given as goal

abbrev pub invariant-loop : goal.invariant-loop
invariant-loop l =
    progress (entry_at l.whole.len l.whole.nodes l.form) (map entry_value l.entries.items) l.count l.counter l.rest ≡
    entries_at l.whole.len l.whole.nodes l.form l.bytes
