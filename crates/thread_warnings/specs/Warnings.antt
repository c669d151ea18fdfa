-- What a run is warned of.
use Rattle.std.specs.Prelude.{ℕ, Bool, List, [], ◌∷◌, ◌++◌, if◌then◌else◌, codes}
use Rattle.thread_warnings.specs.Runs.{Lists}
use Rattle.thread_plans.specs.Plans.{PlanValue}
use Rattle.thread_plans.specs.LineNumbers.{start_lines, worker_lines}
use Rattle.thread_warnings.specs.Runs.{RunFaults}
use Rattle.thread_warnings.specs.RefusedCalls.{refused_lines}
use Rattle.thread_warnings.specs.RefusedStarts.{refused_starts}
use Rattle.thread_warnings.specs.Short.{shorts_lines}
use Rattle.thread_warnings.specs.ShortStarts.{starts_lines}
use Rattle.thread_warnings.specs.Unfit.{unfit_lines, unset_in, unset_sum}

abbrev pub audit_said : Bool → List (List ℕ)
audit_said explained = if explained then [] else codes "the audit says no" ∷ []

-- of a script with this plan, whose run gave these receipts, refused calls so, and of which the audit says yes or no, a
-- line each: nothing, where each call was accepted, each pass met a point that is set, and the audit says yes
abbrev pub warned_lines : List ℕ → PlanValue → Lists → RunFaults → Bool → List (List ℕ)
warned_lines script plan lists faults explained =
    refused_starts (start_lines script) faults.0 ++ unfit_lines script
    ++ starts_lines plan lists ++ shorts_lines plan lists (worker_lines script)
    ++ refused_lines faults.1 ++ unset_sum (unset_in lists) ++ audit_said explained
