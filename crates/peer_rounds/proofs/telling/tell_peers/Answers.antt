use Rattle.std.proofs.Common.{◌≡◌, [], is_some, ap, subst, ◌∙◌}
use Rattle.http_wire.specs.Sent.{traffic_of}
use Rattle.http_wire.specs.declared.wire.HttpWire.{HttpWire}
use Rattle.peer_rounds.specs.Rounds.{told_below}
use Rattle.peer_rounds.specs.Sharing.{AreRoundsTo}
use Rattle.peer_rounds.specs.Told.{no_traffic, recorded_says}
use Rattle.peer_rounds.proofs.telling.tell_peers.Goals as goal

pub returns-in-Some-clause-over : goal.returns-in-Some-clause-over
returns-in-Some-clause-over g c =
    let config = g.L.Label.config in
    let told = c.tell_over-rounds in
    let before : traffic_of c.new-wire.result.wire.inner.sent.items ≡ no_traffic =
    ap traffic_of (ap (λ (w : HttpWire g.row.R.Denot). w.sent.items) c.new-wire.ensures ∙ c.in-Ok.ensures.sent) in (
      ap is_some c.in-Some.is,
      subst (λ t. AreRoundsTo (told_below config.node config.nodes
          c.args.telling.now.peers.items) config g.L.Label.seed g.L.Label.keeps g.L.Ledger.parts (recorded_says told.new.wire)
          c.args.telling.now.rights c.args.seat.now told.new.seat t (traffic_of told.new.wire.wire.inner.sent.items)
          told.result.made told.result.log.items (is_some told.result.loss)) before told.ensures.rounds,
    )
