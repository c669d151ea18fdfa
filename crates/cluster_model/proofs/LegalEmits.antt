-- An emit is the last call of a legal trace exactly where its bytes tell what differs at the end of a legal trace.
use Rattle.std.proofs.Common.{◌≡◌, ℕ, ◌+◌, ◌≤◌, ◌^◌, List, [], ◌∷◌, ◌++◌, length, ◌↔◌, refl, sym, ◌∙◌, subst, arith, None, Result, Ok, Err}
use Rattle.message_format.specs.declared.fault.WireFault.{WireFault}
use Rattle.message_format.proofs.Fields.{IsBytes}
use Rattle.node_calls.specs.Asks.{Message, bare_emit, emit_of, message_read}
use Rattle.node_steps.specs.Nodes.{start}
use Rattle.node_steps.specs.Refusals.{refusal_at}
use Rattle.node_core.specs.Traces.{Kept, node_of, refusal, emission_of, IsLegal}
use Rattle.node_core.specs.Deliveries.{TellsDelta}
use Rattle.node_core.proofs.LegalTraces.{legal_more, legal_parts}
use Rattle.node_core.proofs.RepliedDelta.{delta_replied, delta_sends}
use Rattle.node_core.proofs.Repeated.{emit_tells}
use Rattle.cluster_model.specs.Laws.{emit_call}

-- an emit is refused for its receiver and a full trace alone, whatever it sends
same_refusal : (k : Kept) (to : ℕ) (read : Result Message WireFault) →
    refusal k (emit_of to read) [] ≡ refusal k (bare_emit to) []
same_refusal k to (Ok m) = refl
same_refusal k to (Err fault) = refl

module _ (k : Kept) (to : ℕ) (bytes : List ℕ) (few : k.config.nodes ≤ 2 ^ 8) (fits : IsBytes bytes) where
  pub legal_emit : IsLegal k.config (k.trace ++ emit_call k to bytes ∷ []) ↔
      (IsLegal k.config k.trace × (refusal k (bare_emit to) [] ≡ None) × TellsDelta k to bytes)
  legal_emit = (
    λ legal.
        let parts = legal_parts k.config 0 start k.trace (emit_call k to bytes) legal in
        let from_0 : 0 + length k.trace ≡ length k.trace = omega arith in (
          parts.0,
          sym (same_refusal k to (message_read k.config.nodes bytes)) ∙
              subst (λ l. refusal_at k.config l (node_of k) (emission_of k to bytes) [] ≡ None) from_0 parts.1.agreed,
          emit_tells k to bytes few fits (message_read k.config.nodes bytes) refl parts.1.sends parts.1.reply,
        ),
    λ h.
        let to_0 : length k.trace ≡ 0 + length k.trace = omega arith in
        let agreed = same_refusal k to (message_read k.config.nodes bytes) ∙ h.1 in
        subst (λ r. IsLegal k.config (k.trace ++ record { ask = emission_of k to bytes; words = []; reply = r } ∷ []))
        (delta_replied k to bytes h.2)
        (legal_more k.config 0 start k.trace (emission_of k to bytes) [] h.0
        (subst (λ l. refusal_at k.config l (node_of k) (emission_of k to bytes) [] ≡ None) to_0 agreed)
        (delta_sends k to bytes h.2)),
  )
