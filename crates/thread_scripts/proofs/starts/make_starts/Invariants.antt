use Rattle.std.proofs.Common.{◌≡◌, map, take}
use Rattle.node_registry.specs.Receipts.{AreGivenSince, seat_after}
use Rattle.node_registry.specs.Seats.{new_seat}
use Rattle.thread_plans.specs.Plans.{start_line_value}
use Rattle.thread_scripts.specs.Calls.{AreOfStarts}
use Rattle.thread_scripts.proofs.starts.make_starts.Given as goal

abbrev pub invariant-loop-line : goal.invariant-loop-line
invariant-loop-line g l = record {
  counted : l.seat ≡ seat_after new_seat l.receipts.items;
  given : AreGivenSince g.L.Label.config g.L.Label.seed new_seat l.receipts.items;
  placed : l.place ≡ l.line-index;
  done : AreOfStarts g.L.Label.config g.L.Label.seed 0 (take l.line-index (map start_line_value l.starts))
      l.receipts.items l.refusals l.faults.items;
}
