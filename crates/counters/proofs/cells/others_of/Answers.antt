use Rattle.std.proofs.Common.{arith}
use Rattle.counters.specs.Sums.{node_numbers}
use Rattle.counters.specs.Cells.{cell}
use Rattle.counters.proofs.CellLemmas.{below-numbers}
use Rattle.counters.proofs.SumLemmas.{sum_others-and}
use Rattle.counters.proofs.cells.others_of.Goals as goal

pub overflow_sub-result : goal.overflow_sub-result
overflow_sub-result c =
    let both = sum_others-and node_numbers c.args.node (cell c.args.cells.now) (below-numbers c.args.node (omega arith)) in
    omega (arith, both, c.requires.all, c.from.ensures, c.number_of.ensures)

pub returns-clause-value : goal.returns-clause-value
returns-clause-value c =
    let both = sum_others-and node_numbers c.args.node (cell c.args.cells.now) (below-numbers c.args.node (omega arith)) in
    omega (arith, both, c.requires.all, c.from.ensures, c.number_of.ensures)

pub returns-clause-small : goal.returns-clause-small
returns-clause-small c = omega (arith, c.requires.small)
