use Rattle.std.proofs.Common.{◌≡◌, ◌<◌, ℕ, length}
use Rattle.audit.specs.Traces.{trace_of}
use Rattle.audit.specs.Receipts.{times_seen}
use Rattle.audit.proofs.receipts.all_present.Given as goal

abbrev pub invariant-loop-node : goal.invariant-loop-node
invariant-loop-node l = (n : ℕ) → n < l.node → (i : ℕ) → i < length (trace_of l.traces n) → times_seen l.seen n i ≡ 1
