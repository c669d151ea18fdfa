use Rattle.std.proofs.Common.{◌≡◌, ◌+◌, ◌∷◌, [], ◌∙◌, ap, sym, refl, slice_set, Result, arith}
use Rattle.std.proofs.lemmas.List.{append-nil}
use Rattle.gossip.specs.Attempts.{attempt_by, why_of}
use Rattle.gossip.specs.Parts as parts
use Rattle.gossip.specs.declared.wire.WireError.{WireError}
use Rattle.gossip.proofs.AskLemmas.{asked_as, emit_brings_none, emit_carries}
use Rattle.gossip.proofs.StepLemmas.{adds_emit, adds_none, adds_refused}
use Rattle.gossip.proofs.CarryLemmas.{emit_refused, err_at, more_failed, moves_lost, moves_nothing, moves_sent, none_failed, none_lost, ok_at, on_err, one_failed, one_lost, stops_at_end, stops_at_once}
use Rattle.gossip.proofs.rounds.tell_one.Goals as goal

pub returns-in_err-reserve-clause-adds : goal.returns-in_err-reserve-clause-adds
returns-in_err-reserve-clause-adds g c =
    adds_none _ _ _ _ _ _ _ refl c.reserve.ensures.items refl refl refl refl refl refl

pub returns-in_err-reserve-2-clause-adds : goal.returns-in_err-reserve-2-clause-adds
returns-in_err-reserve-2-clause-adds g c =
    adds_none _ _ _ _ _ _ _ refl c.reserve.ensures.items refl refl refl refl refl refl

pub returns-in-Err-OutOfMemory-clause-adds : goal.returns-in-Err-OutOfMemory-clause-adds
returns-in-Err-OutOfMemory-clause-adds g c =
    let told = c.in-Ok.ensures in
    let done = c.record_emit.ensures in
    adds_emit _ _ _ _ _ _ _ _ c.in-Ok.receipt (asked_as g.L.Label.config.nodes told.asked) told.given told.since told.counted
    c.reserve.ensures.items done.receipts done.emitted done.delivered done.ended done.refused (done.noted ∙ told.unnoted)
    done.rejected

pub returns-in-Err-sent : goal.returns-in-Err-sent
returns-in-Err-sent g c =
    let told = c.in-Ok.ensures in
    let done = c.record_emit.ensures in
    let first = asked_as g.L.Label.config.nodes told.asked in
    let lost = one_lost c.args.to c.send-sent.result _ c.in-Err-sent.is in
    let failed = one_failed c.reserve-2.new.self.items c.args.to c.send-sent.result _ c.in-Err-sent.is done.failed in
    record {
      adds = adds_emit _ _ _ _ _ _ _ _ c.in-Ok.receipt (asked_as g.L.Label.config.nodes told.asked) told.given told.since told.counted
          c.reserve.ensures.items done.receipts done.emitted done.delivered done.ended done.refused (done.noted ∙ told.unnoted)
          done.rejected;
      tried = omega (arith, done.emitted, done.refused);
      few = omega (arith, done.emitted, done.refused, done.delivered);
      moves = moves_lost c.args.to _ _ c.in-Ok.receipt c.reserve.ensures.items done.receipts
          (omega (arith, done.lost, lost)) done.refused (more_failed _ failed c.reserve-2.ensures.items) done.rejected
          (emit_carries _ _ _ _ first) (emit_brings_none _ _ _ first)
          (err_at _ _ c.in-Err-sent.is c.send-sent.ensures.err);
      missed = omega (arith, done.lost, done.refused, lost);
      why = (
        tt,
        done.attempts ∙ ap (λ (s : Result Unit WireError). slice_set c.args.report.now.attempts c.args.to
            (attempt_by (why_of s))) c.in-Err-sent.is,
        more_failed _ failed c.reserve-2.ensures.items,
      );
      tries = tt;
      stops = tt;
    }

pub returns-in-Ok-sent-clause-adds : goal.returns-in-Ok-sent-clause-adds
returns-in-Ok-sent-clause-adds g c =
    let told = c.in-Ok.ensures in
    let done = c.record_emit.ensures in
    adds_emit _ _ _ _ _ _ _ _ c.in-Ok.receipt (asked_as g.L.Label.config.nodes told.asked) told.given told.since told.counted
    c.reserve.ensures.items done.receipts done.emitted done.delivered done.ended done.refused (done.noted ∙ told.unnoted)
    done.rejected

pub returns-in_err-refuse_emit-in-Err-clause-adds : goal.returns-in_err-refuse_emit-in-Err-clause-adds
returns-in_err-refuse_emit-in-Err-clause-adds g c =
    let refused = c.refuse_emit.ensures in
    adds_refused _ _ _ _ _ _ _ c.in-Err.fault _ c.in-Err.ensures.err (refused.receipts ∙ c.reserve.ensures.items)
    refused.emitted refused.delivered refused.ended refused.counted (refused.noted ∙ c.in-Err.ensures.noted)
    (refused.rejected ∙ sym (append-nil _)) (parts.kept parts.none)

pub returns-in_ok-refuse_emit-in-Err-clause-adds : goal.returns-in_ok-refuse_emit-in-Err-clause-adds
returns-in_ok-refuse_emit-in-Err-clause-adds g c =
    let refused = c.refuse_emit.ensures in
    adds_refused _ _ _ _ _ _ _ c.in-Err.fault _ c.in-Err.ensures.err (refused.receipts ∙ c.reserve.ensures.items)
    refused.emitted refused.delivered refused.ended refused.counted (refused.noted ∙ c.in-Err.ensures.noted)
    (refused.rejected ∙ sym (append-nil _)) (parts.kept parts.none)

pub returns-in_err-reserve-clause-stops : goal.returns-in_err-reserve-clause-stops
returns-in_err-reserve-clause-stops g c =
    on_err _ (stops_at_once _ (moves_nothing refl c.reserve.ensures.items refl refl refl refl))

pub returns-in_err-reserve-2-clause-stops : goal.returns-in_err-reserve-2-clause-stops
returns-in_err-reserve-2-clause-stops g c =
    on_err _ (stops_at_once _
    (moves_nothing refl c.reserve.ensures.items refl refl c.reserve-2.ensures.items refl))

pub returns-in-Err-OutOfMemory-clause-stops : goal.returns-in-Err-OutOfMemory-clause-stops
returns-in-Err-OutOfMemory-clause-stops g c =
    let done = c.record_emit.ensures in
    let first = asked_as g.L.Label.config.nodes c.in-Ok.ensures.asked in
    let lost = one_lost c.args.to c.send-sent.result _ c.in-Err-OutOfMemory.is in
    let more : c.record_emit.new.self.lost ≡ c.args.report.now.lost + 1 = omega (arith, done.lost, lost) in
    let failed = one_failed c.reserve-2.new.self.items c.args.to c.send-sent.result _ c.in-Err-OutOfMemory.is done.failed in
    stops_at_end (moves_lost c.args.to _ _ c.in-Ok.receipt c.reserve.ensures.items done.receipts
    more done.refused (more_failed _ failed c.reserve-2.ensures.items) done.rejected
    (emit_carries _ _ _ _ first) (emit_brings_none _ _ _ first)
    (err_at _ _ c.in-Err-OutOfMemory.is c.send-sent.ensures.err))

pub returns-in-Ok-sent-clause-moves : goal.returns-in-Ok-sent-clause-moves
returns-in-Ok-sent-clause-moves g c =
    let done = c.record_emit.ensures in
    let first = asked_as g.L.Label.config.nodes c.in-Ok.ensures.asked in
    let lost = none_lost c.args.to c.send-sent.result _ c.in-Ok-sent.is in
    let failed = none_failed c.args.to c.send-sent.result _ c.in-Ok-sent.is done.failed in
    let unlost : c.record_emit.new.self.lost ≡ c.args.report.now.lost = omega (arith, done.lost, lost) in
    moves_sent c.args.to _ c.in-Ok.receipt c.reserve.ensures.items done.receipts unlost done.refused
    (failed ∙ c.reserve-2.ensures.items) done.rejected (emit_carries _ _ _ _ first) (emit_brings_none _ _ _ first)
    (ok_at _ _ c.in-Ok-sent.is c.send-sent.ensures.ok)

pub returns-in_ok-refuse_emit-in-Err-clause-moves : goal.returns-in_ok-refuse_emit-in-Err-clause-moves
returns-in_ok-refuse_emit-in-Err-clause-moves g c =
    let refused = c.refuse_emit.ensures in
    ok_at _ _ c.in_ok-refuse_emit-in-Err.was
    (emit_refused _ _ _ _ _ _ c.refuse_emit.result c.args.to c.in-Err.fault refused.memory refused.ok
    (refused.receipts ∙ c.reserve.ensures.items) refused.lost (refused.failed ∙ c.reserve-2.ensures.items)
    refused.rejected c.in-Err.ensures.refused refl)

pub returns-in_err-refuse_emit-in-Err-clause-stops : goal.returns-in_err-refuse_emit-in-Err-clause-stops
returns-in_err-refuse_emit-in-Err-clause-stops g c =
    on_err _ (stops_at_once (c.args.to ∷ [])
    (moves_nothing refl (c.refuse_emit.ensures.receipts ∙ c.reserve.ensures.items) c.refuse_emit.ensures.lost
    (err_at _ _ c.in_err-refuse_emit-in-Err.was c.refuse_emit.ensures.err)
    (c.refuse_emit.ensures.failed ∙ c.reserve-2.ensures.items) c.refuse_emit.ensures.rejected))

pub returns-in-Err-OutOfMemory-clause-tries : goal.returns-in-Err-OutOfMemory-clause-tries
returns-in-Err-OutOfMemory-clause-tries g c =
    ((c.args.to, attempt_by (why_of c.send-sent.result)) ∷ [], c.record_emit.ensures.attempts)
