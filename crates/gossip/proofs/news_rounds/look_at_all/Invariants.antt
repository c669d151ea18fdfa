use Rattle.std.proofs.Common.{◌≡◌, drop, length, take}
use Rattle.gossip.specs.News.{Says}
use Rattle.gossip.specs.NewsRounds.{Looks}
use Rattle.gossip.proofs.news_rounds.look_at_all.Given as goal

abbrev pub invariant-loop-pace : goal.invariant-loop-pace
invariant-loop-pace g l =
    record {
      looks : Looks g.L.Label.config g.L.Label.seed l.initial.seat.calls (Says g.W.Reach.reached) l.initial.seat l.seat
          (g.W.Wire.traffic l.initial.wire) (g.W.Wire.traffic l.wire) l.initial.report l.report
          (take l.pace-index l.initial.paces) (take l.pace-index l.paces);
      same : drop l.pace-index l.paces ≡ drop l.pace-index l.initial.paces;
      long : length l.paces ≡ length l.initial.paces;
    }
