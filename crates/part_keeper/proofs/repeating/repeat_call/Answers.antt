use Rattle.std.proofs.Common.{sym, ap, ◌∙◌, option_map, true≢false}
use Rattle.node_calls.specs.Told.{told}
use Rattle.node_registry.specs.Seats.{SeatState}
use Rattle.part_keeper.proofs.MadeAgain.{answered_otherwise, repeated}
use Rattle.part_keeper.proofs.repeating.repeat_call.Goals as goal

pub returns-then-is_given-clause-given : goal.returns-then-is_given-clause-given
returns-then-is_given-clause-given g c =
    let same = c.is_answered-is_given.ensures.0 c.if-is_given.true in
    repeated g.L.Label.config g.L.Label.seed c.args.seat.now.calls c.enter_owned.new.seat.calls c.args.line.now c.in-Some.entry
    c.in-Ok.made (sym (ap (option_map told) c.in-Some.is) ∙ c.in_ok-entry.ensures) c.in-Ok.ensures.asked
    (same.0 ∙ c.as_slice.ensures.value) same.1 c.in-Ok.ensures.given
    (ap (λ (s : SeatState). s.calls) c.in-Ok.ensures.counted)

pub returns-clause-differs : goal.returns-clause-differs
returns-clause-differs g c = λ is.
    answered_otherwise g.L.Label.config g.L.Label.seed c.args.line.now c.in-Some.entry c.in-Ok.made
    (sym (sym (ap (option_map told) c.in-Some.is) ∙ c.in_ok-entry.ensures)) c.in-Ok.ensures.asked
    c.in-Ok.ensures.given
    (λ same. true≢false (sym (rw c.if-is_given.false at c.is_answered-is_given.ensures.1 (
      same.0
          ∙ sym c.as_slice.ensures.value,
      same.1,
    ))))
