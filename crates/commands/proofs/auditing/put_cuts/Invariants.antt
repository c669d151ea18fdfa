use Rattle.std.proofs.Common.{◌≡◌, ◌++◌, map}
use Rattle.drills.specs.Parts.{part_of}
use Rattle.commands.specs.Audited.{cuts_below}
use Rattle.commands.proofs.auditing.put_cuts.Given as goal

abbrev pub invariant-loop-node : goal.invariant-loop-node
invariant-loop-node l = record {
  format : l.printed.format ≡ l.initial.printed.format;
  bytes : l.printed.bytes ≡ l.initial.printed.bytes
      ++ cuts_below l.initial.printed.format l.node (map part_of l.parts);
}
