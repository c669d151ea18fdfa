use Rattle.std.proofs.Common.{◌≡◌, ◌≤◌, take}
use Rattle.std.specs.Prelude.{count_by}
use Rattle.node_calls.specs.declared.receipt.Receipt.{Receipt}
use Rattle.thread_warnings.specs.Unfit.{is_unset}
use Rattle.thread_warnings.proofs.unfit.unset_of.Given as goal

abbrev pub invariant-loop-receipt : goal.invariant-loop-receipt
invariant-loop-receipt l = record {
  so_far : l.unset ≡ count_by (λ (r : Receipt). is_unset r.entry.reply) (take l.receipt-index l.list);
  few : l.unset ≤ l.receipt-index;
}
