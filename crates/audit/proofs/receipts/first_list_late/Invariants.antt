use Rattle.std.proofs.Common.{◌<◌, ℕ, Vec, get_or}
use Rattle.std.specs.declared.alloc.Global.{Global}
use Rattle.node_calls.specs.declared.receipt.Receipt.{Receipt}
use Rattle.audit.specs.Receipts.{Ascends}
use Rattle.audit.proofs.receipts.first_list_late.Given as goal

abbrev pub invariant-loop-list : goal.invariant-loop-list
invariant-loop-list l = (k : ℕ) (d : Vec Receipt Global) → k < l.list → Ascends (get_or l.lists k d).items
