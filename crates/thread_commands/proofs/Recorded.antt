-- The result of a recorded run.
use Rattle.std.proofs.Common.{◌≡◌, List, ℕ, Result, Ok, Err, inl, inr}
use Rattle.std.specs.Prelude.{◌⊎◌, IfErr, IfOk, Vec}
use Rattle.std.specs.declared.alloc.Global.{Global}
use Rattle.answers.specs.declared.printed.Format.{Format}
use Rattle.streams.specs.declared.fault.ScriptFault.{ScriptFault}
use Rattle.streams.specs.declared.fault.ScriptFault.TheVariants as faults
use Rattle.audit.specs.Receipts.{Lists}
use Rattle.audit.specs.Traces.{Traces}
use Rattle.thread_commands.specs.Recordings.{IsKept}
use Rattle.thread_plans.specs.Plans.{PlanValue, plan_in}
use Rattle.thread_scripts.specs.Outputs.{ComesToSaying}

-- its script has a plan
pub played : {E : Type 0} (Keeps : Traces → Lists → Type 0) (format : Format) (script : List ℕ) (plan : PlanValue)
    (said : List (List ℕ)) (result : Result (Vec ℕ Global) E) → plan_in script ≡ Ok plan →
    IfOk result (λ text. IsKept Keeps format script plan text.items said) →
    IfOk result (λ text. ComesToSaying format script text.items said)
played Keeps format script plan said (Err fault) planned h = tt
played Keeps format script plan said (Ok text) planned h =
    (plan, h.traces, h.lists, h.faults, planned, h.legal, h.given, h.told)

-- ---- a fault of a run is of no line

pub of_no_line : {T : Type 0} (result : Result T ScriptFault)
    → IfErr result (λ fault. (fault ≡ faults.WriteFailed) ⊎ (fault ≡ faults.OutOfMemory))
    → (line : ℕ) → result ≡ Err (faults.BadLine line) → ⊥
of_no_line (Ok done) only line is = cc
of_no_line (Err fault) (inl e) line is = cc
of_no_line (Err fault) (inr e) line is = cc
