use Rattle.std.proofs.Common.{◌≡◌, ◌≤◌, ◌+◌, length, map}
use Rattle.node_calls.specs.Asks.{Shift}
use Rattle.gossip.specs.Reports.{others_below}
use Rattle.gossip.specs.Steps.{Adds}
use Rattle.gossip.proofs.spreading.shift_term.Given as goal

abbrev pub invariant-loop-to : goal.invariant-loop-to
invariant-loop-to g l =
    let config = g.L.Label.config in
    let shifts = map (λ to. Shift l.name l.term to l.amount) (others_below config l.to) in
    record {
      adds : Adds config g.L.Label.seed l.initial.seat l.seat l.initial.report l.report shifts;
      emitted : l.report.emitted ≡ l.initial.report.emitted;
      delivered : l.report.delivered ≡ l.initial.report.delivered;
      tried : length l.report.receipts.items + l.report.refused
          ≡ length l.initial.report.receipts.items + l.initial.report.refused + length shifts;
      few : l.report.refused ≤ l.initial.report.refused + l.to;
    }
