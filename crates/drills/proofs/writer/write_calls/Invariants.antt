use Rattle.std.proofs.Common.{◌≡◌, false, map, take}
use Rattle.streams.specs.Watched.{has_failed, inner_of}
use Rattle.drills.specs.Lines.{entry}
use Rattle.drills.proofs.Growing.{Holds}
use Rattle.drills.proofs.writer.write_calls.Given as goal

abbrev pub invariant-loop-index : goal.invariant-loop-index
invariant-loop-index g l = record {
  holds : Holds (g.W.Write.contents (inner_of l.initial.writer)) (g.W.Write.contents (inner_of l.writer))
      (map entry (take l.index l.trace.calls));
  failed : has_failed l.writer ≡ false;
}
