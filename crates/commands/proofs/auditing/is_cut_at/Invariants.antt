use Rattle.std.proofs.Common.{◌≡◌, map, drop}
use Rattle.drills.specs.Parts.{part_of}
use Rattle.commands.specs.Audited.{is_cut_at}
use Rattle.commands.proofs.auditing.is_cut_at.Given as goal

abbrev pub invariant-loop-part : goal.invariant-loop-part
invariant-loop-part l =
    is_cut_at l.node (map part_of (drop l.part-index l.parts)) ≡ is_cut_at l.node (map part_of l.parts)
