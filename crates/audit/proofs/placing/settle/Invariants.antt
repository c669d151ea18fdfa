use Rattle.audit.specs.Boards.{left}
use Rattle.audit.specs.Boards.{IsBoard}
use Rattle.audit.proofs.placing.settle.Given as goal

abbrev pub invariant-loop : goal.invariant-loop
invariant-loop l = IsBoard l.traces l.board

abbrev pub decreases-loop : goal.decreases-loop
decreases-loop l = left l.traces l.board.positions.items
