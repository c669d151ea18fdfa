use Rattle.std.proofs.Common.{◌≡◌, ◌++◌, take}
use Rattle.std.specs.List.{flat_map}
use Rattle.message_format.specs.Spelling.{shift_bytes}
use Rattle.message_format.proofs.writing.put_shifts.Given as goal

abbrev pub invariant-loop-term : goal.invariant-loop-term
invariant-loop-term l = l.out.items ≡ l.initial.out.items ++ flat_map shift_bytes (take l.term-index l.shifts)
