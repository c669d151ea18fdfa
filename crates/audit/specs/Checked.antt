-- What the check of the receipts answers.
use Rattle.std.specs.Prelude.{Result, Ok, Err}
use Rattle.audit.specs.declared.receipts.ReceiptFault.{ReceiptFault}
use Rattle.audit.specs.declared.receipts.ReceiptFault.TheVariants.{Differs, Twice, Missing, OutOfMemory, OutOfOrder}
use Rattle.audit.specs.declared.fault.AuditFault.{AuditFault}
use Rattle.audit.specs.declared.fault.AuditFault.TheVariants as faults
use Rattle.audit.specs.Traces.{Traces}
use Rattle.audit.specs.Receipts.{Lists, AllMatch, GivenOnce, GivenTwice, GivenAll, SomeMissing, AllAscend, IsFirstLate}

-- the least fault that applies
abbrev pub IsChecked : Traces → Lists → Result (Unit {0}) ReceiptFault → Type 0
IsChecked traces lists (Ok done) = AllMatch traces lists × GivenOnce lists × GivenAll traces lists × AllAscend lists
IsChecked traces lists (Err Differs) = AllMatch traces lists → ⊥
IsChecked traces lists (Err Twice) = AllMatch traces lists × GivenTwice lists
IsChecked traces lists (Err Missing) = AllMatch traces lists × GivenOnce lists × SomeMissing traces lists
IsChecked traces lists (Err OutOfMemory) = Unit {0}
IsChecked traces lists (Err (OutOfOrder list place)) =
    AllMatch traces lists × GivenOnce lists × GivenAll traces lists × IsFirstLate lists list place

-- as a fault of the audit
abbrev pub fault_told : ReceiptFault → AuditFault
fault_told Differs = faults.ReceiptDiffers
fault_told Twice = faults.ReceiptTwice
fault_told Missing = faults.ReceiptMissing
fault_told OutOfMemory = faults.OutOfMemory
fault_told (OutOfOrder list place) = faults.OutOfOrder list place
