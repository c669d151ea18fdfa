use Rattle.std.proofs.Common.{◌≡◌, ◌++◌, drop}
use Rattle.drill_picture.specs.Boards.{IsBoard}
use Rattle.drill_picture.proofs.placing.add_column.Given as goal

abbrev pub invariant-loop-place : goal.invariant-loop-place
invariant-loop-place l = record {
  kept : IsBoard l.traces l.board;
  places : l.board.places.items ++ drop l.place-index l.column ≡ l.initial.board.places.items ++ l.column;
}
