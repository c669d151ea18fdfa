-- What an audit answers.
use Rattle.std.specs.Prelude.{◌≡◌, ℕ, List, reverse, Result, Ok, Err}
use Rattle.cluster_model.specs.Worlds.{Event}
use Rattle.audit.specs.declared.auditing.AuditYes.{AuditYes}
use Rattle.audit.specs.declared.fault.AuditFault.{AuditFault}
use Rattle.audit.specs.declared.fault.AuditFault.TheVariants.{BadConfig, WrongReply, Stuck, ReceiptDiffers, ReceiptTwice, ReceiptMissing, OutOfMemory, OutOfOrder}
use Rattle.audit.specs.Traces.{Traces, IsSized, AllLegal, IsLeastWrong}
use Rattle.audit.specs.Schedules.{SomeFits, events_of}
use Rattle.audit.specs.Places.{IsOrder, IsStuckWith, steps_at}
use Rattle.audit.specs.Receipts.{Lists, AllMatch, GivenOnce, GivenTwice, GivenAll, SomeMissing, AllAscend, IsFirstLate}

-- the receipts are the entries of the traces, each once and none missing, in the order of each list
pub record AreReceipts (traces : Traces) (lists : Lists) : Type 0 where
  pub match_ : AllMatch traces lists
  pub once : GivenOnce lists
  pub all : GivenAll traces lists
  pub ascend : AllAscend lists

-- all that an audit asks
pub record IsAuditable (nodes : ℕ) (traces : Traces) (lists : Lists) : Type 0 where
  pub sized : IsSized nodes traces
  pub fits : SomeFits nodes traces
  pub receipts : AreReceipts traces lists

-- a yes, or the first fault that applies
abbrev pub IsAudited : ℕ → Traces → Lists → Result AuditYes AuditFault → Type 0
IsAudited nodes traces lists (Ok found) =
    IsSized nodes traces × IsOrder nodes traces found.order.items × AreReceipts traces lists
IsAudited nodes traces lists (Err BadConfig) = IsSized nodes traces → ⊥
IsAudited nodes traces lists (Err (WrongReply node index)) =
    IsSized nodes traces × IsLeastWrong nodes traces node index
IsAudited nodes traces lists (Err (Stuck node index)) =
    IsSized nodes traces × AllLegal nodes traces × IsStuckWith traces node index × (SomeFits nodes traces → ⊥)
IsAudited nodes traces lists (Err ReceiptDiffers) =
    IsSized nodes traces × SomeFits nodes traces × (AllMatch traces lists → ⊥)
IsAudited nodes traces lists (Err ReceiptTwice) =
    IsSized nodes traces × SomeFits nodes traces × AllMatch traces lists × GivenTwice lists
IsAudited nodes traces lists (Err ReceiptMissing) =
    IsSized nodes traces × SomeFits nodes traces × AllMatch traces lists × GivenOnce lists × SomeMissing traces lists
IsAudited nodes traces lists (Err OutOfMemory) = IsSized nodes traces
IsAudited nodes traces lists (Err (OutOfOrder list place)) =
    IsSized nodes traces × SomeFits nodes traces × AllMatch traces lists × GivenOnce lists
    × GivenAll traces lists × IsFirstLate lists list place

-- the events of an order
abbrev pub events_in : ℕ → Traces → List (ℕ × ℕ) → List Event
events_in nodes traces order = events_of nodes (steps_at traces (reverse order))

-- yes, or out of memory
abbrev pub IsYesOrRefused : Result AuditYes AuditFault → Type 0
IsYesOrRefused (Ok found) = Unit {0}
IsYesOrRefused (Err fault) = fault ≡ OutOfMemory

-- wherever an audit may say yes, it does, out of memory aside
abbrev pub YesWhen : Type 0
YesWhen = (nodes : ℕ) (traces : Traces) (lists : Lists) (result : Result AuditYes AuditFault) →
    IsAudited nodes traces lists result → IsAuditable nodes traces lists → IsYesOrRefused result
