use Rattle.std.proofs.Common.{◌≡◌, ◌≤◌, ◌+◌, ◌*◌, length}
use Rattle.gossip.specs.Spreads.{shifts_in}
use Rattle.gossip.specs.Steps.{Adds}
use Rattle.gossip.proofs.spreading.shift_all.Given as goal

abbrev pub invariant-loop-term : goal.invariant-loop-term
invariant-loop-term g l =
    let config = g.L.Label.config in
    let shifts = shifts_in config l.name l.shares.amounts l.term in
    record {
      adds : Adds config g.L.Label.seed l.initial.seat l.seat l.initial.report l.report shifts;
      emitted : l.report.emitted ≡ l.initial.report.emitted;
      delivered : l.report.delivered ≡ l.initial.report.delivered;
      tried : length l.report.receipts.items + l.report.refused
          ≡ length l.initial.report.receipts.items + l.initial.report.refused + length shifts;
      few : l.report.refused ≤ l.term * 256;
    }
