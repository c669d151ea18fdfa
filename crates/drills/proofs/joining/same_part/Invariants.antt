use Rattle.std.proofs.Common.{◌≡◌, None, map}
use Rattle.drills.specs.Joined.{is_doubled, least}
use Rattle.drills.specs.Parts.{part_of}
use Rattle.drills.proofs.joining.same_part.Given as goal

abbrev pub invariant-loop-node : goal.invariant-loop-node
invariant-loop-node l = least (is_doubled (map part_of l.parts)) l.node ≡ None
