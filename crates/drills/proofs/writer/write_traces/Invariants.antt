use Rattle.std.proofs.Common.{◌≡◌, false, take}
use Rattle.streams.specs.Watched.{has_failed, inner_of}
use Rattle.drills.specs.Drills.{trace_lines, traces_told, numbered}
use Rattle.drills.proofs.Growing.{Holds}
use Rattle.drills.proofs.writer.write_traces.Given as goal

abbrev pub invariant-loop-node : goal.invariant-loop-node
invariant-loop-node g l = record {
  holds : Holds (g.W.Write.contents (inner_of l.initial.writer)) (g.W.Write.contents (inner_of l.writer))
      (numbered trace_lines 0 (traces_told (take l.node l.traces)));
  failed : has_failed l.writer ≡ false;
}
