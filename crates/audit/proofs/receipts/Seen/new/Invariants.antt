use Rattle.std.proofs.Common.{◌≡◌, ℕ, false, length, take, replicate, slice_get}
use Rattle.audit.specs.Traces.{trace_of}
use Rattle.audit.specs.Receipts.{marks_in}
use Rattle.audit.proofs.receipts.Seen.new.Given as goal

abbrev pub invariant-loop-trace : goal.invariant-loop-trace
invariant-loop-trace l =
    (length l.rows.items ≡ l.trace-index) ×
    ((n : ℕ) → marks_in (slice_get l.rows.items n)
    ≡ replicate (length (trace_of (take l.trace-index l.traces) n)) false)
