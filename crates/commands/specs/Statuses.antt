-- Exit statuses.
use Rattle.std.specs.Prelude.{◌≡◌, ℕ, Result, IfOk}
use Rattle.std.specs.declared.process.ExitCode.{ExitCode}
use Rattle.std.specs.Process.{exit_status}

-- at Ok the program ends with this status
abbrev pub HasStatus : {E : Type 0} → Result ExitCode E → ℕ → Type 0
HasStatus result status = IfOk result (λ code. exit_status code ≡ status)

-- what holds at Ok where the program ends with this status
abbrev pub OnStatus : {E : Type 0} → Result ExitCode E → ℕ → Type 0 → Type 0
OnStatus result status fact = IfOk result (λ code. exit_status code ≡ status → fact)
