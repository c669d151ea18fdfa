use Rattle.std.proofs.Common.{◌≡◌, ◌++◌, drop, map, string_bytes}
use Rattle.drill_picture.specs.Lines.{shown_byte}
use Rattle.drill_picture.proofs.lines.push_bytes.Given as goal

abbrev pub invariant-loop-byte : goal.invariant-loop-byte
invariant-loop-byte l = string_bytes l.out ++ map shown_byte (drop l.byte-index l.bytes)
    ≡ string_bytes l.initial.out ++ map shown_byte l.bytes
