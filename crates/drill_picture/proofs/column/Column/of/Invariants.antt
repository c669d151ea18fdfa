use Rattle.std.proofs.Common.{◌≡◌}
use Rattle.drill_picture.specs.Charts.{below, levels_below}
use Rattle.drill_picture.proofs.column.Column.of.Given as goal

abbrev pub invariant-loop-node : goal.invariant-loop-node
invariant-loop-node l = record {
  low : l.low ≡ below l.row l.node;
  levels : l.levels.items ≡ levels_below l.row l.node;
}
