use Rattle.std.proofs.Common.{◌≡◌}
use Rattle.drill_picture.specs.Charts.{all_held}
use Rattle.drill_picture.proofs.charts.all_held.Given as goal

abbrev pub invariant-loop-node : goal.invariant-loop-node
invariant-loop-node l = l.all ≡ all_held l.row l.node
