use Rattle.std.proofs.Common.{◌≡◌, map, take}
use Rattle.drills.specs.Joined.{receipts_from}
use Rattle.drills.specs.Lines.{receipt_told}
use Rattle.drills.proofs.joining.receipts_of.Given as goal

abbrev pub invariant-loop-index : goal.invariant-loop-index
invariant-loop-index l = map receipt_told l.list.items ≡ receipts_from l.node 0 (take l.index l.trace.calls)
