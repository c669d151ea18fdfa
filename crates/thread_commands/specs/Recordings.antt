-- What a script of threads comes to whose run is kept.
use Rattle.std.specs.Prelude.{ℕ, List}
use Rattle.answers.specs.declared.printed.Format.{Format}
use Rattle.audit.specs.Receipts.{Lists}
use Rattle.audit.specs.Traces.{Traces}
use Rattle.thread_plans.specs.Plans.{PlanValue}
use Rattle.thread_warnings.specs.Runs.{RunFaults}
use Rattle.thread_scripts.specs.Outputs.{IsTold}
use Rattle.thread_scripts.specs.Plays.{AreListsOf, AreTracesOf}

-- A plan was played and its run kept, as this says of its traces and lists of receipts; it prints this, and this is what
-- the plan's script is warned of.
pub record IsKept (Keeps : Traces → Lists → Type 0) (format : Format) (script : List ℕ) (plan : PlanValue)
    (text : List ℕ) (said : List (List ℕ)) : Type 0 where
  pub traces : Traces
  pub lists : Lists
  pub faults : RunFaults
  pub legal : AreTracesOf plan traces
  pub given : AreListsOf plan lists faults
  pub told : IsTold format script plan traces lists faults text said
  pub kept : Keeps traces lists
