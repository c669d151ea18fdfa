use Rattle.std.proofs.Common.{◌≡◌}
use Rattle.peer_rounds.proofs.rounds.ask_awaited.Given as goal

abbrev pub invariant-loop-pace : goal.invariant-loop-pace
invariant-loop-pace g l = g.W.Wire.traffic l.wire ≡ g.W.Wire.traffic l.initial.wire
