use Rattle.std.proofs.Common.{◌≡◌}
use Rattle.node_registry.specs.Receipts.{AreGivenSince, seat_after}
use Rattle.node_registry.specs.Seats.{new_seat}
use Rattle.thread_scripts.specs.Gossips.{AreShared}
use Rattle.thread_scripts.proofs.rounds.share_rounds.Given as goal

abbrev pub invariant-loop-round : goal.invariant-loop-round
invariant-loop-round g l = record {
  counted : l.seat ≡ seat_after new_seat l.receipts.items;
  given : AreGivenSince g.L.Label.config g.L.Label.seed new_seat l.receipts.items;
  shared : AreShared g.L.Label.config g.L.Label.seed l.initial.wire.mail l._round l.sharing l.receipts.items l.wire.mail;
}
