use Rattle.std.proofs.Common.{◌≡◌, ◌++◌, drop}
use Rattle.std.specs.List.{flat_map}
use Rattle.answers.specs.Strings.{string_byte}
use Rattle.answers.proofs.strings.push_string.Given as goal

abbrev pub invariant-loop-byte : goal.invariant-loop-byte
invariant-loop-byte l = l.out.items ++ flat_map (string_byte l.known) (drop l.byte-index l.bytes)
    ≡ l.initial.out.items ++ flat_map (string_byte l.known) l.bytes
