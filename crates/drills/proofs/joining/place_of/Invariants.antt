use Rattle.std.proofs.Common.{◌≡◌, map, drop}
use Rattle.drills.specs.Parts.{part_of}
use Rattle.drills.specs.Places.{place_from}
use Rattle.drills.proofs.joining.place_of.Given as goal

abbrev pub invariant-loop-index : goal.invariant-loop-index
invariant-loop-index l =
    place_from l.node l.index (map part_of (drop l.index l.parts)) ≡ place_from l.node 0 (map part_of l.parts)
