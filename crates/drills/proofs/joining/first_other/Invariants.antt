use Rattle.std.proofs.Common.{◌≡◌, ◌+◌, map, drop}
use Rattle.drills.specs.Lines.{head_told}
use Rattle.drills.specs.Joined.{first_other}
use Rattle.drills.specs.Parts.{part_of}
use Rattle.drills.proofs.joining.first_other.Given as goal

abbrev pub invariant-loop-index : goal.invariant-loop-index
invariant-loop-index l = first_other (head_told l.first) (l.index + 1) (map part_of (drop l.index l.parts)) ≡
    first_other (head_told l.first) 1 (map part_of l.parts)
