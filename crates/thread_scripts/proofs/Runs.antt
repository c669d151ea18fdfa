-- What a run writes, where its reader tells its bytes.
use Rattle.std.proofs.Common.{◌≡◌, List, ℕ, Option, Some, None, Result, Ok, Err, subst}
use Rattle.std.specs.Prelude.{IfOk, IfSome, OnOk}
use Rattle.answers.specs.declared.printed.Format.{Format}
use Rattle.thread_scripts.specs.Outputs.{IsOutput, PlaysTo}
use Rattle.thread_plans.specs.Plans.{PlanValue, plan_in}

module _ (format : Format) (written : List ℕ → Type 0) (script text : List ℕ) (plan : PlanValue) where
  -- the script that was read is the input
  pub reported : (input : Option (List ℕ)) → IfSome input (λ bytes. script ≡ bytes) →
      plan_in script ≡ Ok plan → IsOutput format plan text → written text →
      IfSome input (λ bytes. PlaysTo format bytes written)
  reported None same planned is h = tt
  reported (Some bytes) same planned is h = (plan, text, rw same at planned, is, h)

  -- the same where the write was done
  pub reported_on_ok : {T E : Type 0} (result : Result T E) (input : Option (List ℕ)) →
      IfSome input (λ bytes. script ≡ bytes) → plan_in script ≡ Ok plan → IsOutput format plan text →
      OnOk result (written text) → OnOk result (IfSome input (λ bytes. PlaysTo format bytes written))
  reported_on_ok (Err fault) input same planned is h = tt
  reported_on_ok (Ok done) input same planned is h = reported input same planned is h

-- what holds of a script that was read and of what was returned holds of the input
pub on_text : {T E : Type 0} (P : List ℕ → T → Type 0) (script : List ℕ) (result : Result T E) (input : Option (List ℕ))
    → IfSome input (λ bytes. script ≡ bytes) → IfOk result (λ text. P script text)
    → IfOk result (λ text. IfSome input (λ bytes. P bytes text))
on_text P script (Err fault) input same h = tt
on_text P script (Ok text) None same h = tt
on_text P script (Ok text) (Some bytes) same h = subst (λ b. P b text) same h
