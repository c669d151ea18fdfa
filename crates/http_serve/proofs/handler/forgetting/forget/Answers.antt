use Rattle.std.proofs.Common.{ap, refl, sym}
use Rattle.node_registry.specs.Seats.{HasSameCalls, SeatState}
use Rattle.node_registry.proofs.SameCalls.{cell_as}
use Rattle.http_serve.proofs.Forgotten.{before_end}
use Rattle.http_serve.proofs.handler.forgetting.forget.Goals as goal

pub returns-clause-given : goal.returns-clause-given
returns-clause-given g c =
    let h = c.give-from.ensures.piece in
    let gave = c.give-from.ensures.counted in
    let same : HasSameCalls c.args.seat.now c.give-from.new.seat =
    (ap (λ (s : SeatState). s.calls) gave, ap (λ (s : SeatState). s.next) gave) in
    let since = cell_as g.L.Label.config g.L.Label.seed g.L.Label.keeps g.L.Ledger.parts c.args.seat.now
    c.give-from.new.seat h.0 same h.1 in
    (h.0, c.give-from.result, since, h.2, refl, sym c.len.ensures)

pub returns-clause-all : goal.returns-clause-all
returns-clause-all g c =
    let h = c.give-from.ensures.piece in
    let calls = ap (λ (s : SeatState). s.calls) c.give-from.ensures.counted in
    rw (calls, c.len.ensures) (before_end g.L.Label.config g.L.Label.seed g.L.Label.keeps
    g.L.Ledger.parts _ h.0 c.give-from.result h.1 h.2)
