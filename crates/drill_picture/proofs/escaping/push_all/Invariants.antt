use Rattle.std.proofs.Common.{◌≡◌, ◌++◌, drop}
use Rattle.std.specs.List.{flat_map}
use Rattle.std.specs.String.{string_bytes}
use Rattle.drill_picture.specs.Escaped.{escaped_byte}
use Rattle.drill_picture.proofs.escaping.push_all.Given as goal

abbrev pub invariant-loop-byte : goal.invariant-loop-byte
invariant-loop-byte l = string_bytes l.out ++ flat_map escaped_byte (drop l.byte-index l.bytes)
    ≡ string_bytes l.initial.out ++ flat_map escaped_byte l.bytes
