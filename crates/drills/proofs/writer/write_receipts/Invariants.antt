use Rattle.std.proofs.Common.{◌≡◌, false, map, take}
use Rattle.streams.specs.Watched.{has_failed, inner_of}
use Rattle.drills.specs.Lines.{receipt, receipt_told}
use Rattle.drills.proofs.Growing.{Holds}
use Rattle.drills.proofs.writer.write_receipts.Given as goal

abbrev pub invariant-loop-receipt : goal.invariant-loop-receipt
invariant-loop-receipt g l = record {
  holds : Holds (g.W.Write.contents (inner_of l.initial.writer)) (g.W.Write.contents (inner_of l.writer))
      (map receipt (map receipt_told (take l.receipt-index l.list)));
  failed : has_failed l.writer ≡ false;
}
