use Rattle.std.proofs.Common.{◌<◌, ◌≤◌, ◌∙◌, length, sym, ap, subst, arith}
use Rattle.node_calls.specs.Told.{AskTold, ReplyTold, ask_told, bytes_of, reply_told}
use Rattle.node_core.specs.Traces.{Kept}
use Rattle.node_registry.specs.Cells.{Cell, Submits}
use Rattle.node_registry.specs.Pieces.{AreBytes, emitted_in}
use Rattle.node_registry.proofs.GivenCalls.{gives_call, held_as}
use Rattle.node_registry.proofs.guarded.Guarded.submit_giving.Goals as goal

pub returns-clause-ok : goal.returns-clause-ok
returns-clause-ok g c =
    let cell = c.args.self.now in
    let after = c.submit.new.self in
    let piece = c.in-Some.piece in
    let same = c.audit.ensures.same.0 in
    let made = subst (λ (x : Cell). Submits x after c.args.ask c.in_ok-reply.reply) same c.in_ok-reply.ensures.ok in
    let kept = c.core.ensures.core ∙ ap (λ (x : Cell). x.node) same in
    let few = subst (λ (k : Kept). k.config.nodes < 256) kept c.is_asked.ensures.few in
    let within = subst (λ (k : Kept). k.from ≤ length k.trace) kept c.is_asked.ensures.within in
    let asked = subst (λ (t : AskTold). AreBytes (bytes_of t)) (c.as_ref.ensures ∙ ap ask_told (sym made.1))
    c.is_asked.ensures.bytes in
    let replied = subst (λ (t : ReplyTold). AreBytes (emitted_in t)) (c.as_ref-2.ensures ∙ ap reply_told (sym made.2))
    c.reply_has_bytes.ensures in (
      after,
      gives_call cell after made.0 piece made.3 within c.in-Some.ensures.piece c.args.ask c.in_ok-reply.reply made.1
          made.2 (omega (arith, few)) (asked, replied) c.last_has_bytes.ensures,
      c.in-Some.ensures.cell,
      held_as g.L.Label.config g.L.Label.seed g.L.Label.keeps g.L.Ledger.parts c.submit.new.seat c.give.new.seat
          (length piece.trace.calls) after c.in-Some.ensures.counted c.in-Some.ensures.since,
    )
