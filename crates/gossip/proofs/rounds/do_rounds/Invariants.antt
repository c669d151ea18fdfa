use Rattle.std.proofs.Common.{◌≤◌, ◌+◌, ◌*◌, length, []}
use Rattle.gossip.specs.Reports.{calls_of, emits_of_rounds, tried_of}
use Rattle.gossip.specs.Carried.{others_in_rounds}
use Rattle.gossip.specs.Steps.{Adds, Moves}
use Rattle.gossip.proofs.rounds.do_rounds.Given as goal

abbrev pub invariant-loop-round : goal.invariant-loop-round
invariant-loop-round g l =
    let config = g.L.Label.config in
    record {
      adds : Adds config g.L.Label.seed l.initial.seat l.seat l.initial.report l.report
          (emits_of_rounds config l._round);
      tried : tried_of l.initial.report + length (emits_of_rounds config l._round) ≤ tried_of l.report;
      few : calls_of l.report ≤ length (emits_of_rounds config l._round) + l._round * 64;
      moves : Moves config g.L.Label.seed (g.W.Wire.traffic l.initial.wire) (g.W.Wire.traffic l.wire)
          l.initial.report l.report (others_in_rounds config l._round) [];
    }
