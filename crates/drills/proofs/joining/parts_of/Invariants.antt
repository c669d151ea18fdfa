use Rattle.std.proofs.Common.{◌≡◌, ◌≤◌, ◌+◌, map, drop}
use Rattle.drills.specs.Joined.{parts_of}
use Rattle.drills.specs.Parts.{part_of}
use Rattle.drills.proofs.joining.parts_of.Given as goal

abbrev pub invariant-loop-part : goal.invariant-loop-part
invariant-loop-part l = record {
  counted : l.count + parts_of l.node (map part_of (drop l.part-index l.parts)) ≡ parts_of l.node (map part_of l.parts);
  few : l.count ≤ l.part-index;
}
