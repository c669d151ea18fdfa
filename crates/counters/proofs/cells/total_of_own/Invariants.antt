use Rattle.std.proofs.Common.{◌≡◌, ◌+◌}
use Rattle.counters.specs.Sums.{node_numbers, sum_below}
use Rattle.counters.specs.Cells.{row_cell}
use Rattle.counters.proofs.CellLemmas.{AreApart}
use Rattle.counters.proofs.cells.total_of_own.Given as goal

abbrev pub invariant-loop-node : goal.invariant-loop-node
invariant-loop-node l =
    record {
      apart : AreApart l.node-iterator;
      sum : l.sum + sum_below node_numbers (λ node. row_cell l.node-iterator node node) ≡ sum_below node_numbers
          (λ node. row_cell l.rows node node);
    }
