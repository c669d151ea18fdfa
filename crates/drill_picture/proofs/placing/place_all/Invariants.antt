use Rattle.std.proofs.Common.{◌≡◌}
use Rattle.drill_picture.specs.Boards.{IsBoard}
use Rattle.drill_picture.specs.Placing.{columns_of}
use Rattle.drill_picture.proofs.placing.place_all.Given as goal

abbrev pub invariant-loop-column : goal.invariant-loop-column
invariant-loop-column l = record {
  kept : IsBoard l.traces l.board;
  places : l.board.places.items ≡ columns_of l.traces l.column;
}
