use Rattle.std.proofs.Common.{◌≡◌}
use Rattle.std.specs.Prelude.{slice_index}
use Rattle.counters.specs.Sums.{sum_below}
use Rattle.counters.specs.Cells.{cell}
use Rattle.counters.proofs.Columns.{AddedBelow}
use Rattle.counters.proofs.cells.add_numbers.Given as goal

abbrev pub invariant-loop-place : goal.invariant-loop-place
invariant-loop-place l =
    record {
      added : AddedBelow (slice_index l.numbers) l.initial.sums l.sums l.place;
      total : l.total ≡ sum_below l.place (cell l.cells);
    }

abbrev pub invariant-loop-place-2 : goal.invariant-loop-place-2
invariant-loop-place-2 l = l.total ≡ sum_below l.place (cell l.cells)
