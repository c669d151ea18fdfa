use Rattle.std.proofs.Common.{take}
use Rattle.thread_warnings.specs.RefusedStarts.{AreByPlace}
use Rattle.thread_warnings.proofs.refused_starts.faults_by_place.Given as goal

abbrev pub invariant-loop-numbered : goal.invariant-loop-numbered
invariant-loop-numbered l = record {
  so_far : AreByPlace l.lines (take l.numbered-index l.refused) l.faults.items;
}
