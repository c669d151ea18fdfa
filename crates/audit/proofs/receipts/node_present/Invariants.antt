use Rattle.std.proofs.Common.{◌≡◌, ◌<◌, ℕ}
use Rattle.audit.specs.Receipts.{times_seen}
use Rattle.audit.proofs.receipts.node_present.Given as goal

abbrev pub invariant-loop-index : goal.invariant-loop-index
invariant-loop-index l = (i : ℕ) → i < l.index → times_seen l.seen l.node i ≡ 1
