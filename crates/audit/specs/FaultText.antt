-- What a fault of an audit prints.
use Rattle.std.specs.Prelude.{ℕ, List, ◌++◌, codes, decimal}
use Rattle.audit.specs.declared.fault.AuditFault.{AuditFault}
use Rattle.audit.specs.declared.fault.AuditFault.TheVariants.{BadConfig, WrongReply, Stuck, ReceiptDiffers, ReceiptTwice, ReceiptMissing, OutOfMemory, OutOfOrder}

-- its number, its name, and what it holds
abbrev pub audit_fault_text : AuditFault → List ℕ
audit_fault_text BadConfig = codes "X1 BadConfig"
audit_fault_text (WrongReply node index) =
    codes "X2 WrongReply node=" ++ (decimal node ++ (codes " index=" ++ decimal index))
audit_fault_text (Stuck node index) =
    codes "X3 Stuck node=" ++ (decimal node ++ (codes " index=" ++ decimal index))
audit_fault_text ReceiptDiffers = codes "X4 ReceiptDiffers"
audit_fault_text ReceiptTwice = codes "X5 ReceiptTwice"
audit_fault_text ReceiptMissing = codes "X6 ReceiptMissing"
audit_fault_text OutOfMemory = codes "X7 OutOfMemory"
audit_fault_text (OutOfOrder list place) =
    codes "X8 OutOfOrder list=" ++ (decimal list ++ (codes " place=" ++ decimal place))
