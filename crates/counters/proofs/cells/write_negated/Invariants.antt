use Rattle.std.proofs.Common.{length}
use Rattle.counters.proofs.Columns.{NegatedBelow}
use Rattle.counters.proofs.cells.write_negated.Given as goal

abbrev pub invariant-loop-place : goal.invariant-loop-place
invariant-loop-place l = NegatedBelow l.numbers (length l.initial.sums) l.sums l.place
