use Rattle.std.proofs.Common.{◌≡◌, ◌++◌, drop}
use Rattle.std.specs.List.{flat_map}
use Rattle.std.specs.String.{string_bytes}
use Rattle.command_line.specs.Quoted.{escaped_byte}
use Rattle.command_line.proofs.quoting.push_all.Given as goal

abbrev pub invariant-loop-byte : goal.invariant-loop-byte
invariant-loop-byte l = string_bytes l.shown ++ flat_map escaped_byte (drop l.byte-index l.bytes)
    ≡ string_bytes l.initial.shown ++ flat_map escaped_byte l.bytes
