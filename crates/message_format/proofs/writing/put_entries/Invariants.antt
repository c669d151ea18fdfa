use Rattle.std.proofs.Common.{◌≡◌, ◌++◌, map, take}
use Rattle.std.specs.List.{flat_map}
use Rattle.message_format.specs.Messages.{entry_value}
use Rattle.message_format.specs.Spelling.{entry_bytes}
use Rattle.message_format.proofs.writing.put_entries.Given as goal

abbrev pub invariant-loop-entry : goal.invariant-loop-entry
invariant-loop-entry l = l.out.items ≡ l.initial.out.items ++
    flat_map (entry_bytes l.form) (map entry_value (take l.entry-index l.entries))
