-- What a script of threads that is checked comes to.
use Rattle.std.specs.Prelude.{◌≡◌, ◌≢◌, ◌⊎◌, ℕ, List, [], is_ok, Ok}
use Rattle.answers.specs.declared.printed.Format.{Format}
use Rattle.answers.specs.declared.printed.Format.TheVariants as formats
use Rattle.audit.specs.Receipts.{Lists}
use Rattle.audit.specs.Traces.{Traces}
use Rattle.thread_plans.specs.BadLines.{bad_lines}
use Rattle.thread_plans.specs.Plans.{PlanValue, plan_in}
use Rattle.thread_warnings.specs.Runs.{RunFaults}
use Rattle.thread_scripts.specs.Outputs.{IsJudged, judged_text}
use Rattle.thread_scripts.specs.Plays.{AreListsWaiting, AreTracesOf}
use Rattle.thread_scripts.specs.declared.output.Judged.{Judged}
use Rattle.thread_checks.specs.Checked.{failed_lines, plain_text, plan_with}
use Rattle.thread_checks.specs.WaitLines.{Waits, wait_lines}
use Rattle.thread_checks.specs.Waits.{waits_in}

-- The run of a script that is checked came to these traces and receipts, refused calls so, prints this in a format, and
-- this is said of it: in each format by the lines of its answers. Its waits are those of its lines. Of each in vain some
-- state of its node after the calls of the node's gossip doesn't know the setting, and of each other some state of its
-- node knows it
pub record IsChecked (format : Format) (script : List ℕ) (traces : Traces) (lists : Lists) (faults : RunFaults)
    (text : List ℕ) (said : List (List ℕ)) : Type 0 where
  pub plan : PlanValue
  pub waits : Waits
  pub vain : List ℕ
  pub judged : Judged
  pub read : plan_in (plain_text script) ≡ Ok plan
  pub legal : AreTracesOf (plan_with script plan) traces
  pub waiting : wait_lines waits ≡ waits_in script
  pub given : AreListsWaiting (plan_with script plan) waits lists faults vain
  pub is_judged : IsJudged (plan_with script plan) traces lists judged
  pub printed : text ≡ judged_text format judged
  pub failed : said ≡ failed_lines script (plan_with script plan) lists faults vain (judged_text formats.Lines judged)
      (is_ok judged.verdict)

-- this is so of what it prints and of what is said of it
abbrev pub ChecksSaying : Format → List ℕ → (List ℕ → List (List ℕ) → Type 0) → Type 0
ChecksSaying format script fact =
    (traces : Traces) × (lists : Lists) × (faults : RunFaults) × (text : List ℕ) × (said : List (List ℕ))
    × IsChecked format script traces lists faults text said × fact text said

-- it prints this, and this is said of it
abbrev pub ChecksTo : Format → List ℕ → List ℕ → List (List ℕ) → Type 0
ChecksTo format script text said =
    (traces : Traces) × (lists : Lists) × (faults : RunFaults) × IsChecked format script traces lists faults text said

-- something is said of it, and this is so of its answers and of what is said: of the lines that fail in a run, or what
-- was wanted of its bad lines
abbrev pub FailsSaying : Format → List ℕ → (List ℕ → List (List ℕ) → Type 0) → Type 0
FailsSaying format script fact =
    ChecksSaying format script (λ text said. (said ≢ []) × fact text said)
    ⊎ ((bad_lines (plain_text script) ≢ []) × fact [] (bad_lines (plain_text script)))
