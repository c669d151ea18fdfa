-- What is said of files that weren't audited.
use Rattle.std.specs.Prelude.{ℕ, List}
use Rattle.drills.specs.FaultText.{drill_fault_text, join_fault_text}
use Rattle.commands.specs.declared.audit_refused.AuditRefused.{AuditRefused}
use Rattle.commands.specs.declared.audit_refused.AuditRefused.TheVariants.{Drill, Join, Part}

abbrev pub refused_text : AuditRefused → List ℕ
refused_text (Drill fault) = drill_fault_text fault
refused_text (Part file fault) = drill_fault_text fault
refused_text (Join fault) = join_fault_text fault
