use Rattle.gossip.specs.Parts as parts
use Rattle.node_calls.specs.Told.{ask_told, bytes_of}
use Rattle.gossip.proofs.StepLemmas.{adds_delivery, adds_refused}
use Rattle.std.proofs.Common.{◌≡◌, List, ◌∷◌, [], ◌++◌, Option, ◌∙◌, ap, refl, ℕ}
use Rattle.gossip.proofs.AskLemmas.{asked_as, delivery_brings, delivery_carries_none}
use Rattle.gossip.proofs.CarryLemmas.{message_refused, message_stops, moves_heard}
use Rattle.node_calls.specs.declared.fault.NodeFault.{NodeFault}
use Rattle.gossip.specs.declared.failures.Rejected.{Rejected}
use Rattle.gossip.specs.Refused.{rejection_of}
use Rattle.gossip_pace.specs.Senders.{sender_of}
use Rattle.gossip.proofs.rounds.take_in.Goals as goal

-- of the same sender
rejected_of_bytes : {sender other : Option ℕ} {now : List Rejected} (was : List Rejected) (fault : NodeFault) →
    now ≡ was ++ rejection_of sender fault → sender ≡ other → now ≡ was ++ rejection_of other fault
rejected_of_bytes was fault told same = told ∙ ap (λ s. was ++ rejection_of s fault) same

pub returns-in-Ok-clause-adds : goal.returns-in-Ok-clause-adds
returns-in-Ok-clause-adds g c =
    let told = c.in-Ok.ensures in
    let done = c.record_delivery.ensures in
    adds_delivery _ _ _ _ _ _ _ c.in-Ok.receipt (asked_as g.L.Label.config.nodes told.asked) told.given told.since told.counted
    done.receipts done.emitted done.delivered done.ended done.refused (done.noted ∙ told.unnoted) done.rejected

pub returns-in-Err-clause-adds : goal.returns-in-Err-clause-adds
returns-in-Err-clause-adds g c =
    let refused = c.reject.ensures in
    adds_refused _ _ _ _ _ _ _ c.in-Err.fault _ c.in-Err.ensures.err refused.receipts refused.emitted refused.delivered
    refused.ended refused.counted (refused.noted ∙ c.in-Err.ensures.noted)
    (rejected_of_bytes _ c.in-Err.fault refused.rejected (c.sender_of-sender.ensures ∙ ap sender_of c.deref.ensures.value)) parts.none

pub returns-in-Ok-clause-moves : goal.returns-in-Ok-clause-moves
returns-in-Ok-clause-moves g c was =
    let told = c.in-Ok.ensures in
    let done = c.record_delivery.ensures in
    let first = asked_as g.L.Label.config.nodes told.asked in
    moves_heard c.args.message.items c.in-Ok.receipt done.receipts done.lost done.refused done.failed done.rejected
    (delivery_carries_none _ _ _ _ first)
    (delivery_brings _ _ _ first ∙ ap (λ (bytes : List ℕ). bytes ∷ []) (ap (λ ask. bytes_of (ask_told ask)) told.asked)) refl refl

pub returns-in-Err-clause-moves : goal.returns-in-Err-clause-moves
returns-in-Err-clause-moves g c was =
    let refused = c.reject.ensures in
    message_refused _ _ _ _ _ _ c.reject.result c.args.message.items c.in-Err.fault refused.memory refused.ok refused.receipts
    refused.lost refused.failed
    (rejected_of_bytes _ c.in-Err.fault refused.rejected (c.sender_of-sender.ensures ∙ ap sender_of c.deref.ensures.value))
    c.in-Err.ensures.refused refl refl

pub returns-in-Err-clause-stops : goal.returns-in-Err-clause-stops
returns-in-Err-clause-stops g c was =
    let refused = c.reject.ensures in
    message_stops _ _ _ _ _ _ c.reject.result c.args.message.items c.in-Err.fault refused.memory refused.err refused.receipts
    refused.lost refused.failed
    (rejected_of_bytes _ c.in-Err.fault refused.rejected (c.sender_of-sender.ensures ∙ ap sender_of c.deref.ensures.value)) refl refl
