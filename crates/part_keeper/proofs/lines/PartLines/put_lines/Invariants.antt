use Rattle.std.proofs.Common.{◌≡◌, map, take}
use Rattle.streams.specs.Watched.{inner_of}
use Rattle.drills.specs.Lines.{entry}
use Rattle.part_keeper.proofs.Keeping.{Waits}
use Rattle.part_keeper.proofs.lines.PartLines.put_lines.Given as goal

abbrev pub invariant-loop-index : goal.invariant-loop-index
invariant-loop-index g l = record {
  waits : Waits (g.W.Write.contents (inner_of l.initial.self.out)) (g.W.Write.contents (inner_of l.self.out))
      l.waiting.items (map entry (take l.index l.trace.calls));
  same : l.self.has_failed ≡ l.initial.self.has_failed;
}
