use Rattle.std.proofs.Common.{◌≡◌}
use Rattle.drill_picture.specs.Placing.{next_below}
use Rattle.drill_picture.proofs.placing.column_of.Given as goal

abbrev pub invariant-loop-node : goal.invariant-loop-node
invariant-loop-node l = l.stand.items ≡ next_below l.traces l.board.places.items l.column l.node
