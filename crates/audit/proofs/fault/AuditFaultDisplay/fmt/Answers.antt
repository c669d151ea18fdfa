use Rattle.std.proofs.Common.{sym, ap, subst}
use Rattle.std.specs.Fmt.{HasWritten}
use Rattle.audit.specs.FaultText.{audit_fault_text}
use Rattle.audit.proofs.fault.AuditFaultDisplay.fmt.Goals as goal

pub returns-in-WrongReply-clause-writes : goal.returns-in-WrongReply-clause-writes
returns-in-WrongReply-clause-writes g c = λ plain ok.
    subst (λ text. HasWritten {W = g.row.W.Denot} g.W.Write.write_str_gives c.args.f.now text c.write.new.self)
    (ap audit_fault_text (sym c.in-WrongReply.is)) (c.write.ensures.writes plain ok)

pub returns-in-Stuck-clause-writes : goal.returns-in-Stuck-clause-writes
returns-in-Stuck-clause-writes g c = λ plain ok.
    subst (λ text. HasWritten {W = g.row.W.Denot} g.W.Write.write_str_gives c.args.f.now text c.write-in-Stuck.new.self)
    (ap audit_fault_text (sym c.in-Stuck.is)) (c.write-in-Stuck.ensures.writes plain ok)
