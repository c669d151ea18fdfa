use Rattle.std.proofs.Common.{ℕ, ◌<◌, ◌≤◌, length, slice_index}
use Rattle.audit.specs.Traces.{trace_of}
use Rattle.audit.proofs.placing.first_left.Given as goal

abbrev pub invariant-loop-node : goal.invariant-loop-node
invariant-loop-node l = (n : ℕ) → n < l.node → length (trace_of l.traces n) ≤ slice_index l.positions n
