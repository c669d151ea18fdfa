use Rattle.std.proofs.Common.{◌≡◌}
use Rattle.counters.specs.Sums.{sum_below}
use Rattle.counters.specs.Cells.{cell}
use Rattle.counters.proofs.cells.total.Given as goal

abbrev pub invariant-loop-number : goal.invariant-loop-number
invariant-loop-number l = l.sum ≡ sum_below l.number-index (cell l.cells)
