use Rattle.std.proofs.Common.{◌≡◌, ◌≤◌, ◌+◌, []}
use Rattle.gossip.specs.Reports.{calls_of, tried_of}
use Rattle.gossip.specs.Steps.{Adds, Moves}
use Rattle.gossip.proofs.rounds.hear.Given as goal

abbrev pub invariant-loop-taken : goal.invariant-loop-taken
invariant-loop-taken g l =
    let config = g.L.Label.config in
    record {
      adds : Adds config g.L.Label.seed l.initial.seat l.seat l.initial.report l.report [];
      tried : tried_of l.initial.report ≤ tried_of l.report;
      few : calls_of l.report ≤ calls_of l.initial.report + l._taken;
      moves : Moves config g.L.Label.seed (g.W.Wire.traffic l.initial.wire) (g.W.Wire.traffic l.wire)
          l.initial.report l.report [] [];
      same : (l.report.attempts ≡ l.initial.report.attempts)
          × (l.report.failed.items ≡ l.initial.report.failed.items);
    }
