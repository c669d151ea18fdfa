use Rattle.std.proofs.Common.{◌≡◌, ◌+◌, length}
use Rattle.registry_sharing.specs.Rounds.{AreCallsFrom}
use Rattle.registry_sharing.proofs.round.receipts_from.Given as goal

abbrev pub invariant-loop-index : goal.invariant-loop-index
invariant-loop-index l = record {
  placed : l.from + length l.receipts.items ≡ l.index;
  calls : AreCallsFrom l.node l.from l.receipts.items;
}
