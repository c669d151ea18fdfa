use Rattle.std.proofs.Common.{◌∙◌, ◌∷◌, [], ap, refl, sym}
use Rattle.std.proofs.lemmas.List.{append-nil}
use Rattle.node_registry.specs.Seats.{new_seat}
use Rattle.node_registry.proofs.SeatReceipts.{after_more, given_more}
use Rattle.thread_scripts.specs.Calls.{fault_list}
use Rattle.thread_scripts.proofs.StartLines.{made_one, refused_one}
use Rattle.thread_scripts.proofs.Numbered.{IfOk-map}
use Rattle.thread_scripts.proofs.starts.make_call.Goals as goal

pub returns-in_ok-push-in-Ok-clause-given : goal.returns-in_ok-push-in-Ok-clause-given
returns-in_ok-push-in-Ok-clause-given g c =
    let told = c.in-Ok.ensures in
    given_more g.L.Label.config g.L.Label.seed new_seat c.args.seat.now c.args.receipts.now.items c.push.new.self.items
    c.in-Ok.receipt c.requires.given c.requires.counted told.given told.since c.in_ok-push-in-Ok.ensures.items

pub returns-in_ok-push-in-Ok-clause-counted : goal.returns-in_ok-push-in-Ok-clause-counted
returns-in_ok-push-in-Ok-clause-counted g c =
    after_more new_seat c.args.seat.now c.enter_noting.new.seat c.args.receipts.now.items c.push.new.self.items
    c.in-Ok.receipt c.requires.counted c.in-Ok.ensures.counted c.in_ok-push-in-Ok.ensures.items

pub returns-in_ok-push-in-Ok-clause-made : goal.returns-in_ok-push-in-Ok-clause-made
returns-in_ok-push-in-Ok-clause-made g c = (
  c.in-Ok.receipt ∷ [],
  [],
  c.in_ok-push-in-Ok.ensures.items,
  c.in-Ok.ensures.unnoted ∙ sym (append-nil c.args.refusals.now),
  refl,
  made_one g.L.Label.config g.L.Label.seed c.in-Ok.receipt _ _ c.in-Ok.ensures.asked c.in_ok-ask.ensures,
)

pub returns-in-Err-clause-made : goal.returns-in-Err-clause-made
returns-in-Err-clause-made g c =
    IfOk-map c.pass_over.result _ _
    (λ why passed. (
      [],
      (c.in_ok-ask.ask, c.in-Err.fault) ∷ [],
      sym (append-nil c.args.receipts.now.items),
      c.in-Err.ensures.noted,
      ap fault_list passed.0,
      refused_one g.L.Label.config g.L.Label.seed c.in-Err.fault _ _ c.in-Err.ensures.refused passed.1
          c.in_ok-ask.ensures,
    )) c.pass_over.ensures
