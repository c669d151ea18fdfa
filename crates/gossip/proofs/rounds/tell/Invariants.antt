use Rattle.std.proofs.Common.{◌≤◌, ◌+◌, length, []}
use Rattle.gossip.specs.Reports.{calls_of, emits_below, others_below, tried_of}
use Rattle.gossip.specs.Steps.{Adds, Moves}
use Rattle.gossip.proofs.rounds.tell.Given as goal

abbrev pub invariant-loop-to : goal.invariant-loop-to
invariant-loop-to g l =
    let config = g.L.Label.config in
    record {
      adds : Adds config g.L.Label.seed l.initial.seat l.seat l.initial.report l.report (emits_below config l.to);
      tried : tried_of l.initial.report + length (emits_below config l.to) ≤ tried_of l.report;
      few : calls_of l.report ≤ calls_of l.initial.report + length (emits_below config l.to);
      moves : Moves config g.L.Label.seed (g.W.Wire.traffic l.initial.wire) (g.W.Wire.traffic l.wire)
          l.initial.report l.report (others_below config l.to) [];
    }
