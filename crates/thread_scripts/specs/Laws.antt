-- What holds of every run.
use Rattle.std.specs.Prelude.{ℕ, ◌<◌, ◌^◌, Err}
use Rattle.audit.specs.declared.fault.AuditFault.TheVariants.{WrongReply}
use Rattle.audit.specs.Answers.{IsAudited}
use Rattle.audit.specs.Receipts.{Lists}
use Rattle.audit.specs.Traces.{Traces}
use Rattle.thread_plans.specs.Plans.{PlanValue}
use Rattle.thread_scripts.specs.Plays.{AreTracesOf}

-- an audit of a plan's own traces never says that a reply is wrong
abbrev pub RepliesAreRight : Type 0
RepliesAreRight = (plan : PlanValue) (traces : Traces) (lists : Lists) (node index : ℕ) → plan.cap < 2 ^ 32 →
    AreTracesOf plan traces → IsAudited plan.nodes traces lists (Err (WrongReply node index)) → ⊥
