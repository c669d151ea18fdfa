use Rattle.std.proofs.Common.{◌≡◌, ◌∙◌, ◌++◌, ap, append_assoc, subst}
use Rattle.node_registry.specs.Receipts.{seat_after}
use Rattle.node_registry.specs.Seats.{SeatState, new_seat}
use Rattle.registry_sharing.specs.Rounds.{IsRoundWith}
use Rattle.thread_scripts.proofs.Numbered.{OnOk-map}
use Rattle.thread_workers.proofs.Seats.{counted_after, given_after}
use Rattle.thread_scripts.proofs.rounds.share_round.Goals as goal

pub returns-clause-counted : goal.returns-clause-counted
returns-clause-counted g c =
    let was = c.args.receipts.now in
    let shifts = c.in_ok-shifts.shifts in
    let told = c.in_ok-told.told in
    let between = c.put_behind.new.all.items in
    let there = counted_after c.args.seat.now c.share_receipts.new.seat was.items shifts.items between
    c.requires.counted c.in_ok-shifts.ensures.round.counted c.in_ok-put_behind.ensures in
    OnOk-map c.put_behind-2.result _ _
    (λ longer. counted_after c.share_receipts.new.seat c.tell_rounds.new.seat between told.items
    c.put_behind-2.new.all.items there c.in_ok-told.ensures.counted longer) c.put_behind-2.ensures

pub returns-clause-given : goal.returns-clause-given
returns-clause-given g c =
    let config = g.L.Label.config in
    let seed = g.L.Label.seed in
    let was = c.args.receipts.now in
    let shifts = c.in_ok-shifts.shifts in
    let told = c.in_ok-told.told in
    let between = c.put_behind.new.all.items in
    let there = counted_after c.args.seat.now c.share_receipts.new.seat was.items shifts.items between
    c.requires.counted c.in_ok-shifts.ensures.round.counted c.in_ok-put_behind.ensures in
    let first = given_after config seed c.args.seat.now was.items shifts.items between c.requires.counted
    c.requires.given c.in_ok-shifts.ensures.given c.in_ok-put_behind.ensures in
    OnOk-map c.put_behind-2.result _ _
    (λ longer. given_after config seed c.share_receipts.new.seat between told.items
    c.put_behind-2.new.all.items there first c.in_ok-told.ensures.given longer) c.put_behind-2.ensures

pub returns-clause-round : goal.returns-clause-round
returns-clause-round g c =
    let config = g.L.Label.config in
    let seed = g.L.Label.seed in
    let keeps = g.L.Label.keeps in
    let parts = g.L.Ledger.parts in
    let was = c.args.receipts.now in
    let shifts = c.in_ok-shifts.shifts in
    let told = c.in_ok-told.told in
    let round = c.in_ok-shifts.ensures.round in
    let had : SeatState = seat_after new_seat was.items in
    let from : IsRoundWith config seed keeps parts had (seat_after had shifts.items) c.args.sharing.now
    c.share_receipts.new.self shifts.items =
    subst (λ s. IsRoundWith config seed keeps parts s (seat_after s shifts.items) c.args.sharing.now
    c.share_receipts.new.self shifts.items) c.requires.counted
    (subst (λ has. IsRoundWith config seed keeps parts c.args.seat.now has c.args.sharing.now
    c.share_receipts.new.self shifts.items) round.counted round) in
    OnOk-map c.put_behind-2.result _ _
    (λ longer. (
      shifts.items,
      told.items,
      longer ∙ ap (λ xs. xs ++ told.items) c.in_ok-put_behind.ensures ∙ append_assoc was.items shifts.items told.items,
      (keeps, parts, from),
      c.in_ok-told.ensures.told,
    )) c.put_behind-2.ensures
