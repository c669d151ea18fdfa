use Rattle.std.proofs.Common.{ℕ, List, [], ◌∷◌, ap, sym, ◌∙◌, refl}
use Rattle.std.proofs.lemmas.List.{append-nil}
use Rattle.node_calls.specs.Asks.{Shift}
use Rattle.gossip.specs.Parts as parts
use Rattle.gossip.proofs.AskLemmas.{asked_as}
use Rattle.gossip.proofs.StepLemmas.{adds_as, adds_none, adds_refused, adds_shift}
use Rattle.gossip.proofs.spreading.shift_one.Goals as goal

pub returns-in_err-reserve-clause-adds : goal.returns-in_err-reserve-clause-adds
returns-in_err-reserve-clause-adds g c = adds_none _ _ _ _ _ _ _ refl c.reserve.ensures.items refl refl refl refl refl refl

pub returns-in-Ok-clause-adds : goal.returns-in-Ok-clause-adds
returns-in-Ok-clause-adds g c =
    let told = c.in-Ok.ensures in
    adds_shift _ _ _ _ _ _ _ _ _ _ _ c.in-Ok.receipt (asked_as g.L.Label.config.nodes told.asked ∙ ap (λ (s : List ℕ). Shift s c.args.term c.args.to c.args.amount)
    c.in_ok-from_str.ensures.ok) told.given told.since told.counted
    c.reserve.ensures.items c.push_reserved.ensures.items refl refl refl refl told.unnoted refl

pub returns-in-Err-clause-adds : goal.returns-in-Err-clause-adds
returns-in-Err-clause-adds g c =
    let refused = c.refuse.ensures in
    adds_as
    (adds_refused _ _ _ _ _ _ _ c.in-Err.fault _ c.in-Err.ensures.err (refused.receipts ∙ c.reserve.ensures.items)
    refused.emitted refused.delivered refused.ended refused.counted (refused.noted ∙ c.in-Err.ensures.noted)
    (refused.rejected ∙ sym (append-nil _)) (parts.kept parts.none))
    (ap (λ (s : List ℕ). Shift s c.args.term c.args.to c.args.amount ∷ []) c.in_ok-from_str.ensures.ok)

pub returns-in_err-from_str-clause-adds : goal.returns-in_err-from_str-clause-adds
returns-in_err-from_str-clause-adds g c = adds_none _ _ _ _ _ _ _ refl c.reserve.ensures.items refl refl refl refl refl refl
