use Rattle.std.proofs.Common.{◌≡◌, None, IfSome, is_some, length}
use Rattle.gossip.specs.News.{Says}
use Rattle.peer_rounds.specs.Sharing.{AreMade}
use Rattle.peer_rounds.proofs.rounds.make_rounds.Given as goal

abbrev pub invariant-loop-number : goal.invariant-loop-number
invariant-loop-number g l = record {
  made : AreMade g.L.Label.config g.L.Label.seed g.L.Label.keeps g.L.Ledger.parts (Says g.W.Reach.reached)
      l.telling.rights l.initial.seat (g.W.Wire.traffic l.initial.wire) l.initial.paces l.number l.seat l.sharing
      (g.W.Wire.traffic l.wire) l.paces l.rounds.log.items (is_some l.rounds.loss);
  count : l.rounds.made ≡ l.number;
  early : l.rounds.early ≡ None;
  loss : IfSome l.rounds.loss (λ token. token.of ≡ l.service.loss.id);
  long : length l.paces ≡ length l.initial.paces;
}
