use Rattle.std.proofs.Common.{◌≡◌, false, take}
use Rattle.streams.specs.Watched.{has_failed, inner_of}
use Rattle.drills.specs.Drills.{list_lines, lists_told, numbered}
use Rattle.drills.proofs.Growing.{Holds}
use Rattle.drills.proofs.writer.write_lists.Given as goal

abbrev pub invariant-loop-number : goal.invariant-loop-number
invariant-loop-number g l = record {
  holds : Holds (g.W.Write.contents (inner_of l.initial.writer)) (g.W.Write.contents (inner_of l.writer))
      (numbered list_lines 0 (lists_told (take l.number l.lists)));
  failed : has_failed l.writer ≡ false;
}
