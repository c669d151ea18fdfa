use Rattle.std.proofs.Common.{◌≡◌, Some, true, false, ap, sym, ◌∙◌}
use Rattle.std.proofs.lemmas.Bool.{OnTrue_from}
use Rattle.std.proofs.lemmas.Result.{IfOk-weaker}
use Rattle.node_calls.specs.Asks as asks
use Rattle.node_core.specs.Traces.{with_call}
use Rattle.packed_trace.specs.Packed.{passed_by, pass_value, setting_ref_told}
use Rattle.node_core.proofs.Repeated.{not_accepted, pass_same, pass_told}
use Rattle.node_core.proofs.node.NodeCore.repeat_pass.Goals as goal

pub returns-in-Ok-clause-given : goal.returns-in-Ok-clause-given
returns-in-Ok-clause-given c =
    let k = c.args.self.now in
    let p = passed_by (setting_ref_told c.args.pass.setting) c.args.pass.term in (
      λ t. record {
        agreed = c.in-Ok.ensures.ok.0;
        sends = tt;
        reply = pass_told k c.record_point.new.self c.args.pass.name.now c.args.pass.words.now p c.in-Ok.ensures.last
            (c.has_passed.ensures.0 t ∙ ap Some c.reply.ensures);
      },
      λ next. c.has_passed.ensures.1
          (pass_same k c.record_point.new.self c.args.pass.name.now c.args.pass.words.now p c.in-Ok.ensures.last next.reply
          ∙ ap Some (sym c.reply.ensures)),
    )

pub returns-in-Ok-clause-made : goal.returns-in-Ok-clause-made
returns-in-Ok-clause-made c = OnTrue_from c.has_passed.result _ (λ t.
    let k = c.args.self.now in
    let p = passed_by (setting_ref_told c.args.pass.setting) c.args.pass.term in
    let told = pass_told k c.record_point.new.self c.args.pass.name.now c.args.pass.words.now p c.in-Ok.ensures.last
    (c.has_passed.ensures.0 t ∙ ap Some c.reply.ensures) in
    c.in-Ok.ensures.ok.2 ∙ ap (λ a. with_call k (record {
      ask = asks.Pass c.args.pass.name.now;
      words = c.args.pass.words.now;
      reply = a;
    })) (sym told))

pub returns-in-Err-clause-given : goal.returns-in-Err-clause-given
returns-in-Err-clause-given c = IfOk-weaker c.refused.result _ _ (λ given other. (
  λ t. absurd (let clash : true ≡ false = sym t ∙ other.0 in cc),
  λ next. absurd (not_accepted c.args.self.now (pass_value c.args.pass) c.in-Err.fault c.in-Err.ensures.refused other.1 next),
)) c.refused.ensures.ok

pub returns-in-Err-clause-made : goal.returns-in-Err-clause-made
returns-in-Err-clause-made c = IfOk-weaker c.refused.result _ _ (λ given other. OnTrue_from given _ (λ t.
    absurd (let clash : true ≡ false = sym t ∙ other.0 in cc))) c.refused.ensures.ok
