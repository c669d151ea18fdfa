use Rattle.std.proofs.Common.{◌≡◌, ◌∙◌, ◌-◌, length, ap, subst, arith}
use Rattle.node_core.specs.Traces.{Kept}
use Rattle.node_registry.specs.Batches.{AreEntered}
use Rattle.node_registry.specs.Cells.{Cell}
use Rattle.node_registry.specs.Seats.{SeatState}
use Rattle.node_registry.proofs.AcceptedBatches.{accepted_from, accepted_length, next_as_ever, next_at_end}
use Rattle.node_registry.proofs.guarded.Guarded.make_batch.Goals as goal
use Rattle.node_registry.proofs.guarded.Guarded.make_batch.Goals.{else-more-ne0, then-more-ne0}

pub overflow_sub-more : goal.overflow_sub-more
overflow_sub-more g c =
    let made = c.make_batch-answer.ensures.entered in
    let new : Cell = c.make_batch-answer.new.self in
    let long = accepted_length c.self.inside.cell.node made.0 new.node made.1.0 in
    let before = c.calls-before.ensures ∙ ap (λ (k : Kept). length k.trace) c.core.ensures.core in
    let after = c.calls-after.ensures ∙ ap (λ (k : Kept). length k.trace) c.core-2.ensures.core in
    omega (arith, before, after, long)

pub invariant_of-self : goal.invariant_of-self
invariant_of-self g c =
    let made = c.make_batch-answer.ensures.entered in
    let new : Cell = c.make_batch-answer.new.self in
    let long = accepted_length c.self.inside.cell.node made.0 new.node made.1.0 in
    let kept = accepted_from c.self.inside.cell.node made.0 new.node made.1.0 in
    let before = c.calls-before.ensures ∙ ap (λ (k : Kept). length k.trace) c.core.ensures.core in
    let after = c.calls-after.ensures ∙ ap (λ (k : Kept). length k.trace) c.core-2.ensures.core in
    let was = c.self.invariant in (
      omega (arith, before, after, long, kept.1, was.0, c.add_calls.ensures.total),
      kept.0 ∙ was.1,
      made.1.1 ∙ was.2,
      λ keeps. kept.1 ∙ was.3 keeps,
      was.4,
    )

pub returns-clause-entered : goal.returns-clause-entered
returns-clause-entered g c =
    let made = c.make_batch-answer.ensures.entered in
    let new : Cell = c.make_batch-answer.new.self in
    let all = length new.node.trace in
    let long = accepted_length c.self.inside.cell.node made.0 new.node made.1.0 in
    let before = c.calls-before.ensures ∙ ap (λ (k : Kept). length k.trace) c.core.ensures.core in
    let after = c.calls-after.ensures ∙ ap (λ (k : Kept). length k.trace) c.core-2.ensures.core in
    let many : c.calls-after.result - c.calls-before.result ≡ length made.0 = omega (arith, before, after, long) in
    let same : c.self.inside.cell ≡ c.args.self.now = c.self.view_is ∙ c.audit.ensures.same.0 in
    let seat = c.seat.view_is ∙ c.audit.ensures.same.1 in
    let calls = ap (λ (s : SeatState). s.calls) seat in
    let next = ap (λ (s : SeatState). s.next) seat in (
      made.0,
      subst (λ (cell : Cell). AreEntered cell made.0 new) same made.1,
      elim c.if-more-ne0.branch [
        | then-more-ne0 w ↦ rw w.seat-inside-is (
          omega (arith, calls, many),
          after ∙ next_at_end (length made.0) c.args.seat.now.next all
              (λ none. let some = w.if-more-ne0.true in omega (arith, some, many, none)),
        )
        | else-more-ne0 w ↦ rw w.seat-inside-is (
          omega (arith, calls, many),
          next ∙ next_as_ever (length made.0) c.args.seat.now.next all
              (let none = w.if-more-ne0.false in omega (arith, none, many)),
        )
      ],
    )
