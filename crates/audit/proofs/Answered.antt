-- What a yes comes to.
use Rattle.std.proofs.Common.{◌≡◌, ℕ, map, sym, ◌∙◌, ap, subst, IfOk, IfErr, Result, Ok, Err, Vec}
use Rattle.std.specs.declared.alloc.Global.{Global}
use Rattle.node_calls.specs.Asks.{call_from}
use Rattle.cluster_model.specs.Laws.{EscrowHolds}
use Rattle.cluster_model.proofs.Closed.{deltas_are_schedules}
use Rattle.audit.specs.declared.auditing.AuditYes.{AuditYes}
use Rattle.audit.specs.declared.fault.AuditFault.{AuditFault}
use Rattle.audit.specs.declared.fault.AuditFault.TheVariants.{OutOfMemory}
use Rattle.audit.specs.declared.tally.Tally.{Tally}
use Rattle.audit.specs.declared.receipts.ReceiptFault.{ReceiptFault}
use Rattle.audit.specs.declared.receipts.ReceiptFault.TheVariants as reasons
use Rattle.audit.specs.Checked.{IsChecked, fault_told}
use Rattle.audit.specs.Schedules.{SomeFits}
use Rattle.audit.specs.Answers.{IsAudited, AreReceipts, events_in}
use Rattle.audit.specs.Places.{IsOrder}
use Rattle.audit.specs.Receipts.{Lists}
use Rattle.audit.specs.Tallies.{IsTallied}
use Rattle.audit.specs.Totals.{AreTotals, AreTotalsIn}
use Rattle.audit.specs.Traces.{Traces, IsSized, audited}
use Rattle.audit.proofs.Scheduled.{escrow_of}
use Rattle.audit.proofs.Tallied.{totals_told}

module _ (nodes : ℕ) (traces : Traces) (sized : IsSized nodes traces) (order : Vec (ℕ × ℕ) Global)
    (is : IsOrder nodes traces order.items) where
  pub answer_is : (lists : Lists) → AreReceipts traces lists → (r : Result AuditYes AuditFault) →
      IfOk r (λ found. found.order ≡ order) → IfErr r (λ fault. fault ≡ OutOfMemory) → IsAudited nodes traces lists r
  answer_is lists receipts (Ok found) same none = (
    sized,
    subst
        (λ (o : Vec (ℕ × ℕ) Global). IsOrder nodes traces o.items) (sym same) is,
    receipts,
  )
  answer_is lists receipts (Err fault) none same = subst (λ f. IsAudited nodes traces lists (Err f)) (sym same) sized

  pub totals_are : (tally : Tally) → IsTallied tally nodes traces nodes → (r : Result AuditYes AuditFault) →
      IfOk r (λ found. found.order ≡ order) → IfOk r (λ found. AreTotalsIn tally found.totals.items) →
      IfOk r (λ found. AreTotals (audited nodes) (events_in nodes traces found.order.items) found.totals.items)
  totals_are tally tallied (Err fault) same made = tt
  totals_are tally tallied (Ok found) same made =
      subst (λ (o : Vec (ℕ × ℕ) Global). AreTotals (audited nodes) (events_in nodes traces o.items) found.totals.items)
      (sym same)
      (totals_told nodes traces tally found.totals.items tallied made (events_in nodes traces order.items)
      (deltas_are_schedules (audited nodes) (events_in nodes traces order.items) is.schedule.schedule)
      (λ i. is.schedule.told i ∙ ap (λ es. map (call_from nodes) es) (is.schedule.whole i)))

  pub escrow_is : (r : Result AuditYes AuditFault) → IfOk r (λ found. found.order ≡ order) →
      IfOk r (λ found. EscrowHolds (audited nodes) (events_in nodes traces found.order.items))
  escrow_is (Err fault) same = tt
  escrow_is (Ok found) same =
      subst (λ (o : Vec (ℕ × ℕ) Global). EscrowHolds (audited nodes) (events_in nodes traces o.items)) (sym same)
      (escrow_of nodes traces sized order.items is)

-- what is wrong with the receipts of traces that a schedule fits
pub fault_is : (nodes : ℕ) (traces : Traces) → IsSized nodes traces → SomeFits nodes traces →
    (lists : Lists) (fault : ReceiptFault) → IsChecked traces lists (Err fault) →
    IsAudited nodes traces lists (Err (fault_told fault))
fault_is nodes traces sized some lists reasons.Differs h = (sized, some, h)
fault_is nodes traces sized some lists reasons.Twice h = (sized, some, h.0, h.1)
fault_is nodes traces sized some lists reasons.Missing h = (sized, some, h.0, h.1, h.2)
fault_is nodes traces sized some lists reasons.OutOfMemory h = sized
fault_is nodes traces sized some lists (reasons.OutOfOrder list place) h = (sized, some, h.0, h.1, h.2, h.3)
