-- What an audit answers.
use Rattle.std.specs.Prelude.{ℕ, List, [], ◌∷◌, map, flat_map, Result, Ok, Err}
use Rattle.audit.specs.declared.auditing.AuditYes.{AuditYes}
use Rattle.audit.specs.declared.fault.AuditFault.{AuditFault}
use Rattle.audit.specs.VerdictText.{verdict_text}
use Rattle.answers.specs.declared.printed.Format.{Format}
use Rattle.answers.specs.declared.printed.Format.TheVariants as formats
use Rattle.answers.specs.Answers.{AnswerValue, audit_yes, audit_no, budget}
use Rattle.answers.specs.Objects.{object_of}

-- that the audit passes, with each total, or that it fails
abbrev pub verdict_answers : Result AuditYes AuditFault → List AnswerValue
verdict_answers (Ok found) = audit_yes ∷ map budget found.totals.items
verdict_answers (Err fault) = audit_no fault ∷ []

-- by a writer: the lines of these answers are the verdict's text
abbrev pub verdict_written : Format → Result AuditYes AuditFault → List ℕ
verdict_written formats.Lines verdict = verdict_text verdict
verdict_written formats.Objects verdict = flat_map object_of (verdict_answers verdict)
