use Rattle.std.proofs.Common.{◌<◌}
use Rattle.audit.specs.Boards.{left}
use Rattle.audit.specs.Boards.{IsBoard}
use Rattle.audit.proofs.placing.advance.Given as goal

abbrev pub invariant-loop : goal.invariant-loop
invariant-loop l = record {
  board : IsBoard l.traces l.board;
  moved : left l.traces l.board.positions.items < left l.traces l.fn.board.positions.items;
}

abbrev pub decreases-loop : goal.decreases-loop
decreases-loop l = left l.traces l.board.positions.items
