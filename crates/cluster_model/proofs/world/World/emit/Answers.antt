use Rattle.std.proofs.Common.{◌∙◌, ap, sym, inr, ◌++◌, ◌∷◌, []}
use Rattle.std.proofs.lemmas.Result.{err_from_is_err_and}
use Rattle.cluster_model.proofs.WorldClauses.{at_hand, emit_fits, emit_refused}
use Rattle.cluster_model.proofs.world.World.emit.Goals as goal

pub returns-in_err-reply-clause-answer : goal.returns-in_err-reply-clause-answer
returns-in_err-reply-clause-answer c =
    let p = err_from_is_err_and c.from_residual-in_err-reply.result c.from_residual-in_err-reply.ensures.1 in
    let k = c.index_mut-sender.result.now in
    let hand = at_hand _ _ c.args.self.now c.args.node k c.self.invariant c.self.view_is c.requires
    c.index_mut-sender.ensures.value in
    rw (p.1, p.2)
    (emit_refused hand c.args.to c.args.words.now c.in_err-reply.field-0.0
    c.in_err-reply.ensures.refused)

pub invariant_of-self-2 : goal.invariant_of-self-2
invariant_of-self-2 c =
    let k = c.index_mut-sender.result.now in
    let hand = at_hand _ _ c.args.self.now c.args.node k c.self.invariant c.self.view_is c.requires
    c.index_mut-sender.ensures.value in
    let last = c.calls-entry.ensures in
    let pushed = c.push_reserved.ensures.items ∙ ap (λ ps. ps ++
    record { node = c.args.node; entry = c.calls-entry.result } ∷ []) c.in_ok-reserve.ensures.items
    ∙ ap (λ n. c.self.inside.messages.items ++ record { node = c.args.node; entry = n } ∷ []) last in
    let fits = emit_fits hand c.args.to c.args.words.now c.in_ok-reply.reply
    c.in_ok-reply.ensures.delta c.call.new.self c.in_ok-reply.ensures.ok c.push_reserved.new.self.items pushed in
    fits.good

pub returns : goal.returns
returns c =
    let k = c.index_mut-sender.result.now in
    let hand = at_hand _ _ c.args.self.now c.args.node k c.self.invariant c.self.view_is c.requires
    c.index_mut-sender.ensures.value in
    let last = c.calls-entry.ensures in
    let pushed = c.push_reserved.ensures.items ∙ ap (λ ps. ps ++
    record { node = c.args.node; entry = c.calls-entry.result } ∷ []) c.in_ok-reserve.ensures.items
    ∙ ap (λ n. c.self.inside.messages.items ++ record { node = c.args.node; entry = n } ∷ []) last in
    let fits = emit_fits hand c.args.to c.args.words.now c.in_ok-reply.reply
    c.in_ok-reply.ensures.delta c.call.new.self c.in_ok-reply.ensures.ok c.push_reserved.new.self.items pushed in
    record {
      answer = inr (sym fits.answer_is);
      after = fits.after_is;
      history = fits.history;
    }
