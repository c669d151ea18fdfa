use Rattle.std.proofs.Common.{◌≡◌, ◌<◌, ℕ, true, false}
use Rattle.audit.specs.Boards.{left}
use Rattle.audit.specs.Places.{IsStuckAt}
use Rattle.audit.specs.Boards.{IsBoard, placed_on}
use Rattle.audit.proofs.placing.round.Given as goal

abbrev pub invariant-loop-node : goal.invariant-loop-node
invariant-loop-node l = record {
  board : IsBoard l.traces l.board;
  moved : l.moved ≡ true → left l.traces l.board.positions.items < left l.traces l.fn.board.positions.items;
  still : l.moved ≡ false → l.board ≡ l.fn.board;
  stuck : l.moved ≡ false → (n : ℕ) → n < l.node → IsStuckAt l.traces (placed_on l.fn.board) n;
}
