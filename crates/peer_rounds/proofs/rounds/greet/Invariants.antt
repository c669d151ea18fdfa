use Rattle.std.proofs.Common.{◌≡◌, drop, length, take}
use Rattle.peer_rounds.specs.Rounds.{AreGreeted}
use Rattle.peer_rounds.proofs.rounds.greet.Given as goal

abbrev pub invariant-loop-pace : goal.invariant-loop-pace
invariant-loop-pace g l =
    record {
      greeted : AreGreeted l.asked.items (take l.pace-index l.initial.paces) (take l.pace-index l.paces);
      same : drop l.pace-index l.paces ≡ drop l.pace-index l.initial.paces;
      long : length l.paces ≡ length l.initial.paces;
    }
