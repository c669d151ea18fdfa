-- What an audit's answer prints.
use Rattle.std.specs.Prelude.{ℕ, List, [], ◌++◌, ◌==◌, if◌then◌else◌, codes, decimal, flat_map, Result, Ok, Err}
use Rattle.stamp_register.specs.declared.key.Stamp.{Stamp}
use Rattle.stamp_register.specs.Keys.{stamp_text}
use Rattle.audit.specs.declared.total.Total.{Total}
use Rattle.audit.specs.declared.auditing.AuditYes.{AuditYes}
use Rattle.audit.specs.declared.fault.AuditFault.{AuditFault}
use Rattle.audit.specs.FaultText.{audit_fault_text}

-- nothing is said of grants where there are none
abbrev pub granted_text : ℕ → List ℕ
granted_text granted = if granted == 0 then [] else codes " granted=" ++ decimal granted

abbrev pub sums_text : Stamp → ℕ → ℕ → ℕ → ℕ → List ℕ
sums_text stamp term count granted executed =
    codes " " ++ stamp_text stamp ++ codes " " ++ decimal term ++ codes " count=" ++ decimal count
    ++ granted_text granted ++ codes " executed=" ++ decimal executed

abbrev pub total_text : Total → List ℕ
total_text t = codes "budget " ++ (t.name ++ sums_text t.stamp t.term t.count t.granted t.executed)

abbrev pub total_line : Total → List ℕ
total_line t = total_text t ++ codes "\n"

-- a yes with a line of each total, or the fault
abbrev pub yes_text : List Total → List ℕ
yes_text totals = codes "audit yes\n" ++ flat_map total_line totals

abbrev pub no_text : AuditFault → List ℕ
no_text fault = codes "audit no " ++ audit_fault_text fault ++ codes "\n"

abbrev pub verdict_text : Result AuditYes AuditFault → List ℕ
verdict_text (Ok found) = yes_text found.totals.items
verdict_text (Err fault) = no_text fault
