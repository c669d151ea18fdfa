use Rattle.std.proofs.Common.{ℕ, ◌<◌, get_or, Vec, All}
use Rattle.std.specs.declared.alloc.Global.{Global}
use Rattle.node_calls.specs.declared.receipt.Receipt.{Receipt}
use Rattle.audit.specs.Receipts.{IsReceiptOf}
use Rattle.audit.proofs.receipts.all_match.Given as goal

abbrev pub invariant-loop-list : goal.invariant-loop-list
invariant-loop-list l = (k : ℕ) (d : Vec Receipt Global) → k < l.list-index →
    All (IsReceiptOf l.traces) (get_or l.lists k d).items
