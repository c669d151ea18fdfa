-- Answers as lines.
use Rattle.std.specs.Prelude.{◌≡◌, ℕ, Bool, Result, OnOk, List, ◌++◌, if◌then◌else◌, codes, decimal, String, string_bytes}
use Rattle.std.specs.Fmt.{signed_decimal}
use Rattle.std.specs.declared.alloc.Global.{Global}
use Rattle.actions.specs.Canonical.{task_text}
use Rattle.audit.specs.VerdictText.{no_text, total_line}
use Rattle.cluster_model.specs.FaultText.{world_fault_text}
use Rattle.cluster_model.specs.declared.fault.WorldFault.{WorldFault}
use Rattle.node_calls.specs.Told.{Passed, Unset, NoTerm, Act}
use Rattle.report_text.specs.Lines.{report_lines_text}
use Rattle.stamp_register.specs.declared.key.Stamp.{Stamp}
use Rattle.stamp_register.specs.Keys.{stamp_text}
use Rattle.streams.specs.Fields.{output_line}
use Rattle.answers.specs.Answers.{AnswerValue, set, removed, loaded, unset, no_term, act, shifted, granted, message, delivered, refused, bad_line, listed, report, rights, spent, hits, workers, calls, audit_yes, audit_no, budget, cut}

abbrev pub set_text : Stamp → List ℕ
set_text stamp = codes "set " ++ stamp_text stamp

abbrev pub removed_text : Stamp → List ℕ
removed_text stamp = codes "removed " ++ stamp_text stamp

-- with the number of the entries
abbrev pub loaded_text : ℕ → List ℕ
loaded_text entries = codes "loaded " ++ decimal entries

-- with the number of the term that was triggered, and its task
abbrev pub pass_text : Passed → List ℕ
pass_text Unset = codes "unset"
pass_text (NoTerm stamp) = codes "none " ++ stamp_text stamp
pass_text (Act stamp term task) =
    codes "act " ++ stamp_text stamp ++ codes " " ++ decimal term ++ codes " " ++ task_text task

-- with all that was shifted there under the point's stamp
abbrev pub shifted_text : ℕ → List ℕ
shifted_text total = codes "shifted " ++ decimal total

-- with all that the node granted itself under the point's stamp
abbrev pub granted_text : ℕ → List ℕ
granted_text total = codes "granted " ++ decimal total

-- with the number of the message
abbrev pub message_text : ℕ → List ℕ
message_text number = codes "message " ++ decimal number

-- of a delivery, by whether the node learnt anything
abbrev pub delivered_text : Bool → List ℕ
delivered_text changed = if changed then codes "changed" else codes "same"

abbrev pub refused_text : WorldFault → List ℕ
refused_text fault = codes "refused " ++ world_fault_text fault

-- of a line that asks for nothing
abbrev pub bad_line_text : List ℕ
bad_line_text = codes "bad line"

-- the line of an answer, or the lines of a report
abbrev pub line_of : AnswerValue → List ℕ
line_of (set stamp) = output_line (set_text stamp)
line_of (removed stamp) = output_line (removed_text stamp)
line_of (loaded entries) = output_line (loaded_text entries)
line_of unset = output_line (pass_text Unset)
line_of (no_term stamp) = output_line (pass_text (NoTerm stamp))
line_of (act stamp term task) = output_line (pass_text (Act stamp term task))
line_of (shifted total) = output_line (shifted_text total)
line_of (granted total) = output_line (granted_text total)
line_of (message number) = output_line (message_text number)
line_of (delivered changed) = output_line (delivered_text changed)
line_of (refused fault) = output_line (refused_text fault)
line_of bad_line = output_line bad_line_text
line_of (listed text) = output_line text
line_of (report state nodes) = report_lines_text state nodes
line_of (rights left) = output_line (signed_decimal left)
line_of (spent count) = output_line (decimal count)
line_of (hits count) = output_line (decimal count)
line_of (workers count) = output_line (codes "workers " ++ decimal count)
line_of (calls count) = output_line (codes "calls " ++ decimal count)
line_of audit_yes = codes "audit yes\n"
line_of (audit_no fault) = no_text fault
line_of (budget total) = total_line total
line_of (cut node) = codes "cut node=" ++ decimal node ++ codes "\n"

-- at Ok this text was appended to the output
abbrev pub Prints : {T E : Type 0} → Result T E → String Global → String Global → List ℕ → Type 0
Prints result old new text = OnOk result (string_bytes new ≡ string_bytes old ++ text)

-- at Ok a line of this text was appended to the output
abbrev pub PrintsLine :
    {T E : Type 0} → Result T E → String Global → String Global → List ℕ → Type 0
PrintsLine result old new text = Prints result old new (output_line text)
