use Rattle.std.proofs.Common.{◌≡◌, [], sym, ◌∙◌, subst, List, ℕ}
use Rattle.node_core.specs.Deliveries.{TellsDelta}
use Rattle.node_core.specs.Traces.{after_call, emission_of}
use Rattle.node_core.proofs.RepliedDelta.{delta_replied}
use Rattle.node_core.proofs.node.NodeCore.emit.Goals as goal

pub record_message-requires-clause-reply : goal.record_message-requires-clause-reply
record_message-requires-clause-reply c =
    delta_replied c.args.self.now c.args.to _ (subst (λ (bytes : List ℕ). TellsDelta c.args.self.now c.args.to bytes)
    (sym c.deref.ensures.value ∙ sym c.in_ok-recorded.ensures.items) c.in_ok-message.ensures)

pub returns-clause-ok : goal.returns-clause-ok
returns-clause-ok c = (
  c.in_ok-emit_checked.ensures.ok,
  delta_replied c.args.self.now c.args.to _ c.in_ok-message.ensures,
  subst (λ (bytes : List ℕ). c.record_message.new.self ≡ after_call c.args.self.now
      (emission_of c.args.self.now c.args.to bytes) [])
      (c.in_ok-recorded.ensures.items ∙ c.deref.ensures.value) c.in_ok-record_message.ensures.after,
)
