use Rattle.std.proofs.Common.{◌≡◌, List, ℕ, true, false, ap, sym, ◌∙◌, subst}
use Rattle.std.proofs.lemmas.Bool.{OnTrue_from}
use Rattle.std.proofs.lemmas.Result.{IfOk-weaker}
use Rattle.node_calls.specs.Asks.{ask_value, ask_value_first, call_from, reply_value}
use Rattle.node_calls.specs.Told.{Told, emits, told}
use Rattle.node_steps.specs.declared.config.Config.{Config}
use Rattle.node_core.specs.Resumed.{IsNext}
use Rattle.node_core.specs.Traces.{Accepts, IsRefusalOf}
use Rattle.node_core.proofs.Repeated.{given_made, given_next, next_same, not_accepted}
use Rattle.node_core.proofs.node.NodeCore.repeat_entry.Goals as goal

pub returns-in-Ok-clause-given : goal.returns-in-Ok-clause-given
returns-in-Ok-clause-given c =
    let k = c.args.self.now in
    let e : Told = told c.args.entry.now in
    let accepts = subst (λ (ws : List ℕ). Accepts k c.answer.new.self
    (ask_value k.config.nodes c.args.entry.now.ask c.in-Ok.made) ws
    (reply_value k.config.nodes c.in-Ok.made)) c.deref.ensures.value c.in-Ok.ensures.ok in (
      λ t. given_next k c.answer.new.self e c.in-Ok.made accepts c.in-Ok.ensures.delta
          (sym c.as_ref.ensures ∙ c.is_same.ensures.0 t ∙ c.as_ref-in-Ok.ensures),
      λ next. c.is_same.ensures.1 (c.as_ref.ensures ∙ next_same k c.answer.new.self e c.in-Ok.made
          (λ to bytes asked replied. c.reply_tells.ensures k to e.words bytes replied
          (ap (λ (f : Config). f.nodes) (sym c.config.ensures))
          (subst (λ r. IsNext k (call_from k.config.nodes (record { ask = emits to; words = e.words; reply = r }))) replied
          (subst (λ a. IsNext k (call_from k.config.nodes (record { ask = a; words = e.words; reply = e.reply }))) asked
          next)))
          accepts c.in-Ok.ensures.delta next ∙ sym c.as_ref-in-Ok.ensures),
    )

pub returns-in-Ok-clause-made : goal.returns-in-Ok-clause-made
returns-in-Ok-clause-made c = OnTrue_from c.is_same.result _ (λ t.
    let k = c.args.self.now in
    let accepts = subst (λ (ws : List ℕ). Accepts k c.answer.new.self
    (ask_value k.config.nodes c.args.entry.now.ask c.in-Ok.made) ws
    (reply_value k.config.nodes c.in-Ok.made)) c.deref.ensures.value c.in-Ok.ensures.ok in
    given_made k c.answer.new.self (told c.args.entry.now) c.in-Ok.made accepts
    (sym c.as_ref.ensures ∙ c.is_same.ensures.0 t ∙ c.as_ref-in-Ok.ensures))

pub returns-in-Err-clause-given : goal.returns-in-Err-clause-given
returns-in-Err-clause-given c = IfOk-weaker c.refused.result _ _ (λ given other. (
  λ t. absurd (let clash : true ≡ false = sym t ∙ other.0 in cc),
  λ next. absurd (not_accepted c.args.self.now (told c.args.entry.now) c.in-Err.fault
      (subst (λ (ws : List ℕ). IsRefusalOf c.args.self.now
      (ask_value_first c.args.self.now.config.nodes c.args.entry.now.ask) ws c.in-Err.fault)
      c.deref.ensures.value c.in-Err.ensures.refused) other.1 next),
)) c.refused.ensures.ok

pub returns-in-Err-clause-made : goal.returns-in-Err-clause-made
returns-in-Err-clause-made c = IfOk-weaker c.refused.result _ _ (λ given other. OnTrue_from given _ (λ t.
    absurd (let clash : true ≡ false = sym t ∙ other.0 in cc))) c.refused.ensures.ok
