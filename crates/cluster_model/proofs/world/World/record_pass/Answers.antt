use Rattle.std.proofs.Common.{◌<◌, ◌≤◌, arith, subst, length, refl}
use Rattle.std.proofs.lemmas.Result.{err_from_is_err_and}
use Rattle.node_calls.specs.Told.{passes}
use Rattle.cluster_model.specs.Events.{WorldValue, calls}
use Rattle.cluster_model.proofs.WorldClauses.{at_hand, call_refused, pass_fits, no_node, recorded}
use Rattle.cluster_model.proofs.world.World.record_pass.Goals as goal

pub returns-then-node-len-clause-refused : goal.returns-then-node-len-clause-refused
returns-then-node-len-clause-refused c =
    let high = c.if-node-len.true in
    let len = c.len.ensures in
    let size = c.self.inside.nodes.ok.0 in
    no_node c.args.self.now (calls c.args.node (passes c.args.name.now) c.args.words.now)
    (subst (λ (w : WorldValue). length w.nodes ≤ c.args.node) c.self.view_is (omega (arith, high, len, size)))

pub returns-in_err-record_pass-clause-refused : goal.returns-in_err-record_pass-clause-refused
returns-in_err-record_pass-clause-refused c =
    let few = c.if-node-len.false in
    let len = c.len.ensures in
    let size = c.self.inside.nodes.ok.0 in
    let low : c.args.node < length c.args.self.now.nodes = subst (λ (w : WorldValue). c.args.node < length w.nodes)
    c.self.view_is (omega (arith, few, len, size)) in
    let k = c.index_mut.result.now in
    let hand = at_hand _ _ c.args.self.now c.args.node k c.self.invariant c.self.view_is low
    c.index_mut.ensures.value in
    let p = err_from_is_err_and c.from_residual.result c.from_residual.ensures.1 in
    rw (p.1, p.2)
    (call_refused hand (passes c.args.name.now) refl c.args.words.now
    c.in_err-record_pass.field-0.0 c.in_err-record_pass.ensures.refused)

pub invariant_of-self-2 : goal.invariant_of-self-2
invariant_of-self-2 c =
    let few = c.if-node-len.false in
    let len = c.len.ensures in
    let size = c.self.inside.nodes.ok.0 in
    let low : c.args.node < length c.args.self.now.nodes = subst (λ (w : WorldValue). c.args.node < length w.nodes)
    c.self.view_is (omega (arith, few, len, size)) in
    let k = c.index_mut.result.now in
    let hand = at_hand _ _ c.args.self.now c.args.node k c.self.invariant c.self.view_is low
    c.index_mut.ensures.value in
    let fits = pass_fits hand c.args.name.now c.args.words.now c.record_pass.new.self
    c.in_ok-record_pass.ensures.ok in
    fits.good

pub returns : goal.returns
returns c =
    let few = c.if-node-len.false in
    let len = c.len.ensures in
    let size = c.self.inside.nodes.ok.0 in
    let low : c.args.node < length c.args.self.now.nodes = subst (λ (w : WorldValue). c.args.node < length w.nodes)
    c.self.view_is (omega (arith, few, len, size)) in
    let k = c.index_mut.result.now in
    let hand = at_hand _ _ c.args.self.now c.args.node k c.self.invariant c.self.view_is low
    c.index_mut.ensures.value in
    let fits = pass_fits hand c.args.name.now c.args.words.now c.record_pass.new.self
    c.in_ok-record_pass.ensures.ok in
    record {
      answer = recorded c.args.self.now _ (calls c.args.node (passes c.args.name.now) c.args.words.now) _ fits.answer_is
          fits.after_is;
      after = fits.after_is;
      history = fits.history;
      refused = tt;
      err = tt;
    }
