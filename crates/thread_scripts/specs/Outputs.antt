-- What a script of threads prints.
use Rattle.std.specs.Prelude.{◌≡◌, ◌≢◌, ℕ, List, length, ◌++◌, is_ok, vec_len, IfOk, Ok, Err}
use Rattle.std.specs.List.{sum_by}
use Rattle.answers.specs.Answers.{calls, workers}
use Rattle.answers.specs.Printing.{written}
use Rattle.answers.specs.Verdicts.{verdict_written}
use Rattle.answers.specs.declared.printed.Format.{Format}
use Rattle.audit.specs.declared.fault.AuditFault.TheVariants.{OutOfMemory}
use Rattle.audit.specs.Answers.{IsAudited, events_in}
use Rattle.audit.specs.Receipts.{Lists}
use Rattle.audit.specs.Totals.{AreTotals}
use Rattle.audit.specs.Traces.{Traces, audited}
use Rattle.thread_plans.specs.Plans.{PlanValue, plan_in}
use Rattle.thread_warnings.specs.Runs.{RunFaults}
use Rattle.thread_warnings.specs.Warnings.{warned_lines}
use Rattle.thread_scripts.specs.Plays.{AreListsOf, AreTracesOf}
use Rattle.thread_scripts.specs.declared.output.Judged.{Judged}

-- how many workers there were, how many calls were accepted, and what an audit found: each answer by a writer
abbrev pub judged_text : Format → Judged → List ℕ
judged_text format judged =
    written format (workers judged.workers) ++ written format (calls judged.calls)
    ++ verdict_written format judged.verdict

-- how many entries traces have, and receipts lists
abbrev pub entries_in : Traces → ℕ
entries_in traces = sum_by (λ trace. length trace.calls) traces

abbrev pub receipts_in : Lists → ℕ
receipts_in lists = sum_by (λ list. vec_len list) lists

-- What a plan answers that came to these traces, one for each node, and to as many receipts as these have entries.
-- The workers are its blocks, the calls those entries, and the verdict is that of an audit of these traces and receipts;
-- after a yes its totals are those of the schedule that the audit found.
pub record IsJudged (plan : PlanValue) (traces : Traces) (lists : Lists) (found : Judged) : Type 0 where
  pub each : length traces ≡ plan.nodes
  pub counted : receipts_in lists ≡ entries_in traces
  pub worked : found.workers ≡ length plan.blocks
  pub accepted : found.calls ≡ entries_in traces
  pub judged : IsAudited plan.nodes traces lists found.verdict
  pub totals : IfOk found.verdict (λ yes.
      AreTotals (audited plan.nodes) (events_in plan.nodes traces yes.order.items) yes.totals.items)
  pub ended : found.verdict ≢ Err OutOfMemory

-- it prints this
abbrev pub IsOutputOf : Format → PlanValue → Traces → Lists → List ℕ → Type 0
IsOutputOf format plan traces lists text =
    (judged : Judged) × IsJudged plan traces lists judged × (text ≡ judged_text format judged)

-- what it prints that came to some legal traces of its nodes, and to lists of receipts that these gave their seats
abbrev pub IsOutput : Format → PlanValue → List ℕ → Type 0
IsOutput format plan text =
    (traces : Traces) × (lists : Lists) × (faults : RunFaults) × AreTracesOf plan traces
    × AreListsOf plan lists faults × IsOutputOf format plan traces lists text

-- a script has a plan, which prints this
abbrev pub ComesTo : Format → List ℕ → List ℕ → Type 0
ComesTo format script text = (plan : PlanValue) × (plan_in script ≡ Ok plan) × IsOutput format plan text

-- a script has a plan, and this is so of what it prints
abbrev pub PlaysTo : Format → List ℕ → (List ℕ → Type 0) → Type 0
PlaysTo format script written =
    (plan : PlanValue) × (text : List ℕ) × (plan_in script ≡ Ok plan) × IsOutput format plan text × written text

-- what a script's plan prints that came to these traces and receipts, and what the script is warned of
pub record IsTold (format : Format) (script : List ℕ) (plan : PlanValue) (traces : Traces) (lists : Lists)
    (faults : RunFaults) (text : List ℕ) (said : List (List ℕ)) : Type 0 where
  pub judged : Judged
  pub is_judged : IsJudged plan traces lists judged
  pub printed : text ≡ judged_text format judged
  pub warned : said ≡ warned_lines script plan lists faults (is_ok judged.verdict)

-- a script has a plan, whose run prints this, and it is warned of this
abbrev pub ComesToSaying : Format → List ℕ → List ℕ → List (List ℕ) → Type 0
ComesToSaying format script text said =
    (plan : PlanValue) × (traces : Traces) × (lists : Lists) × (faults : RunFaults) × (plan_in script ≡ Ok plan)
    × AreTracesOf plan traces × AreListsOf plan lists faults × IsTold format script plan traces lists faults text said

-- a script has a plan, and this is so of what it prints and of what it is warned of
abbrev pub PlaysSaying : Format → List ℕ → (List ℕ → List (List ℕ) → Type 0) → Type 0
PlaysSaying format script fact =
    (text : List ℕ) × (said : List (List ℕ)) × ComesToSaying format script text said × fact text said
