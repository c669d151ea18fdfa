use Rattle.std.proofs.Common.{sym, inr}
use Rattle.std.proofs.lemmas.Result.{err_from_is_err_and}
use Rattle.node_calls.specs.Told.{ask_ref_told}
use Rattle.cluster_model.proofs.WorldClauses.{at_hand, call_fits, call_refused}
use Rattle.cluster_model.proofs.world.World.ask.Goals as goal

pub returns-in_err-call-clause-answer : goal.returns-in_err-call-clause-answer
returns-in_err-call-clause-answer c =
    let p = err_from_is_err_and c.from_residual.result c.from_residual.ensures.1 in
    let k = c.index_mut.result.now in
    let hand = at_hand _ _ c.args.self.now c.args.node k c.self.invariant c.self.view_is c.requires.node
    c.index_mut.ensures.value in
    rw (p.1, p.2)
    (call_refused hand (ask_ref_told c.args.ask) c.requires.silent c.args.words.now
    c.in_err-call.field-0.0 c.in_err-call.ensures.refused)

pub invariant_of-self-2 : goal.invariant_of-self-2
invariant_of-self-2 c =
    let k = c.index_mut.result.now in
    let hand = at_hand _ _ c.args.self.now c.args.node k c.self.invariant c.self.view_is c.requires.node
    c.index_mut.ensures.value in
    (call_fits hand (ask_ref_told c.args.ask) c.requires.silent c.args.words.now
    c.call.new.self c.in_ok-call.field-0 c.in_ok-call.ensures.ok).good

pub returns : goal.returns
returns c =
    let k = c.index_mut.result.now in
    let hand = at_hand _ _ c.args.self.now c.args.node k c.self.invariant c.self.view_is c.requires.node
    c.index_mut.ensures.value in
    let fits = call_fits hand (ask_ref_told c.args.ask) c.requires.silent c.args.words.now
    c.call.new.self c.in_ok-call.field-0 c.in_ok-call.ensures.ok in
    record {
      answer = inr (sym fits.answer_is);
      after = fits.after_is;
      history = fits.history;
    }
