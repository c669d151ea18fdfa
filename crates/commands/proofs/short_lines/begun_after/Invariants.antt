use Rattle.std.proofs.Common.{◌≡◌, ◌+◌, ◌≤◌, drop}
use Rattle.commands.specs.ShortLines.{begun_after, most_of_line}
use Rattle.commands.proofs.short_lines.begun_after.Given as goal

abbrev pub invariant-loop-byte : goal.invariant-loop-byte
invariant-loop-byte l = record {
  bound : l.begun ≤ most_of_line + 1;
  same : begun_after l.begun (drop l.byte-index l.bytes) ≡ begun_after l.initial.begun l.bytes;
}
