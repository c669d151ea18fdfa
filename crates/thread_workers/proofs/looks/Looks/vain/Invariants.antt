use Rattle.std.proofs.Common.{take}
use Rattle.thread_workers.specs.Waits.{AreWaited}
use Rattle.thread_workers.proofs.looks.Looks.vain.Given as goal

abbrev pub invariant-loop-place : goal.invariant-loop-place
invariant-loop-place g l =
    AreWaited g.L.Label.config g.L.Label.seed l.receipts (take l.place g.L.Waiting.waits) l.vain.items
