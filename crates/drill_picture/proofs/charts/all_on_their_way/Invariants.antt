use Rattle.std.proofs.Common.{◌≡◌}
use Rattle.drill_picture.specs.Charts.{all_on_their_way}
use Rattle.drill_picture.proofs.charts.all_on_their_way.Given as goal

abbrev pub invariant-loop-node : goal.invariant-loop-node
invariant-loop-node l = l.all ≡ all_on_their_way l.row l.node
