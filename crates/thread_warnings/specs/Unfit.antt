-- Lines of workers whose calls every node refuses, and passes that met a point that isn't set.
use Rattle.std.specs.Prelude.{ℕ, ◌+◌, ◌==◌, Bool, true, false, List, [], ◌∷◌, ◌++◌, count_by, is_some, nat_lt, if◌then◌else◌, Option, Some, None, codes, decimal}
use Rattle.std.specs.List.{sum_by}
use Rattle.actions.specs.Reading.{reading}
use Rattle.actions.specs.SettingReading.{setting_reading}
use Rattle.thread_warnings.specs.Runs.{Lists}
use Rattle.node_calls.specs.FaultText.{node_fault_text}
use Rattle.node_calls.specs.Told.{AskTold, sets, removes, loads, passes, shifts, grants, emits, delivers}
use Rattle.node_calls.specs.declared.fault.NodeFault.{NodeFault}
use Rattle.node_calls.specs.declared.receipt.Receipt.{Receipt}
use Rattle.node_calls.specs.declared.reply.PassReply.TheVariants as replied
use Rattle.node_calls.specs.declared.reply.Reply.{Reply}
use Rattle.node_calls.specs.declared.reply.Reply.TheVariants as replies
use Rattle.node_steps.specs.Refusals.{bad_actions, bad_setting, no_name}
use Rattle.refusals.specs.Refusals.{first_fault}
use Rattle.streams.specs.Fields.{lines_of}
use Rattle.streams.specs.Lines.{◌>>=◌}
use Rattle.thread_plans.specs.BadLines.{count_one, most_named}
use Rattle.thread_plans.specs.LineCalls.{call_in}

-- ---- calls that every node refuses

-- why a node refuses a call, whatever it knows
abbrev pub why_refused : AskTold → Option NodeFault
why_refused (sets name text) = first_fault (no_name name ∷ bad_actions (reading text) ∷ [])
why_refused (removes name) = no_name name
why_refused (loads text) = bad_setting (setting_reading text)
why_refused (passes name) = no_name name
why_refused (shifts name term to amount) = no_name name
why_refused (grants name term amount) = no_name name
why_refused (emits to) = None
why_refused (delivers bytes) = None

-- the same of the call of a worker's line, if it has one
abbrev pub why_unfit : List ℕ → Option NodeFault
why_unfit line = call_in line >>= why_refused

-- ---- what is said

abbrev pub fault_said : ℕ → NodeFault → List (List ℕ)
fault_said number fault =
    (codes "line " ++ (decimal number ++ (codes ": refused " ++ node_fault_text fault))) ∷ []

abbrev pub unfit_said : ℕ → Option NodeFault → List (List ℕ)
unfit_said number None = []
unfit_said number (Some fault) = fault_said number fault

-- between two lines: the number of the next one, and how many lines were unfit
pub record Unfit : Type 0 where
  pub number : ℕ
  pub unfit : ℕ

abbrev pub line_said : Unfit → List ℕ → List (List ℕ)
line_said u line = if nat_lt u.unfit most_named then unfit_said u.number (why_unfit line) else []

abbrev pub line_counted : Unfit → List ℕ → Unfit
line_counted u line = record { number = u.number + 1; unfit = u.unfit + count_one (is_some (why_unfit line)) }

abbrev pub unfit_sum : ℕ → List (List ℕ)
unfit_sum unfit = if nat_lt most_named unfit then (codes "rejected lines: " ++ decimal unfit) ∷ [] else []

abbrev pub said_from : Unfit → List (List ℕ) → List (List ℕ)
said_from u [] = unfit_sum u.unfit
said_from u (line ∷ lines) = line_said u line ++ said_from (line_counted u line) lines

abbrev pub none_unfit : Unfit
none_unfit = record { number = 1; unfit = 0 }

unfoldable pub unfit_lines : List ℕ → List (List ℕ)
unfit_lines script = said_from none_unfit (lines_of script)

-- ---- passes of points that aren't set

abbrev pub is_unset : Reply → Bool
is_unset (replies.Pass replied.Unset) = true
is_unset _ = false

abbrev pub unset_in : Lists → ℕ
unset_in lists = sum_by (λ list. count_by (λ (r : Receipt). is_unset r.entry.reply) list.items) lists

abbrev pub unset_sum : ℕ → List (List ℕ)
unset_sum unset =
    if unset == 0 then [] else (codes "evaluations of points that aren't set: " ++ decimal unset) ∷ []
