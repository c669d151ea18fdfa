-- The audit says yes wherever it may, out of memory aside.
use Rattle.std.proofs.Common.{◌≡◌, ℕ, ◌+◌, ◌<◌, ◌≤◌, ◌↔◌, List, length, arith, subst, refl, Result, Ok, Err, Vec}
use Rattle.std.proofs.lemmas.Option.{slice_get_within, get_or_from_slice_get}
use Rattle.std.specs.declared.alloc.Global.{Global}
use Rattle.node_calls.specs.declared.receipt.Receipt.{Receipt}
use Rattle.audit.specs.declared.auditing.AuditYes.{AuditYes}
use Rattle.audit.specs.declared.fault.AuditFault.{AuditFault}
use Rattle.audit.specs.declared.fault.AuditFault.TheVariants as faults
use Rattle.audit.specs.Traces.{Traces, IsSized, trace_of, AllLegal}
use Rattle.audit.specs.Schedules.{SomeFits}
use Rattle.audit.specs.Places.{Fits}
use Rattle.audit.specs.Receipts.{Lists, Ascends, given_all}
use Rattle.audit.specs.Answers.{IsAudited, IsAuditable, IsYesOrRefused}
use Rattle.audit.proofs.Replayed.{legal_begins}
use Rattle.audit.proofs.Scheduled.{some_fits, legal_of_fits, order_of_fits}

pub orders_are_schedules : (nodes : ℕ) (traces : Traces) → IsSized nodes traces →
    SomeFits nodes traces ↔ (AllLegal nodes traces × ((order : List (ℕ × ℕ)) × Fits traces order))
orders_are_schedules nodes traces sized = (
  λ some. (legal_of_fits nodes traces some, order_of_fits nodes traces some),
  λ h. some_fits nodes traces sized h.0 h.1.0 h.1.1,
)

pub yes_when : (nodes : ℕ) (traces : Traces) (lists : Lists) (result : Result AuditYes AuditFault) →
    IsAudited nodes traces lists result → IsAuditable nodes traces lists → IsYesOrRefused result
yes_when nodes traces lists (Ok found) a y = tt
yes_when nodes traces lists (Err faults.BadConfig) a y = absurd (a y.sized)
yes_when nodes traces lists (Err (faults.WrongReply n i)) a y =
    absurd (a.1.first.wrong (legal_begins nodes n (trace_of traces n) (i + 1) (legal_of_fits nodes traces y.fits n)))
yes_when nodes traces lists (Err (faults.Stuck n i)) a y = absurd (a.3 y.fits)
yes_when nodes traces lists (Err faults.OutOfMemory) a y = refl
yes_when nodes traces lists (Err faults.ReceiptDiffers) a y = absurd (a.2 y.receipts.match_)
yes_when nodes traces lists (Err faults.ReceiptTwice) a y =
    let two : 2 ≤ given_all a.3.0 a.3.1 lists = a.3.2 in
    let one : given_all a.3.0 a.3.1 lists ≤ 1 = y.receipts.once a.3.0 a.3.1 in
    absurd (omega (arith, two, one))
yes_when nodes traces lists (Err faults.ReceiptMissing) a y =
    let none : given_all a.4.0 a.4.1 lists ≡ 0 = a.4.3 in
    let one : given_all a.4.0 a.4.1 lists ≡ 1 = y.receipts.all a.4.0 a.4.1 a.4.2 in
    absurd (omega (arith, none, one))
yes_when nodes traces lists (Err (faults.OutOfOrder l p)) a y =
    let late = a.5 in
    let P : Vec Receipt Global → Type 0 = λ v. Ascends v.items in
    let inside : l < length lists = slice_get_within lists l late.list late.there in
    let ascends : Ascends late.list.items = subst P (get_or_from_slice_get lists l late.list late.list late.there)
    (y.receipts.ascend l late.list inside) in
    absurd (ascends p late.late)
