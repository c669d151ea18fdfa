-- The plan that is played of a script of threads that is checked, and what is said of the lines that fail.
use Rattle.std.specs.Prelude.{◌≡◌, ℕ, ◌+◌, ◌^◌, Bool, List, [], ◌++◌, nat_lt, slice_get, if◌then◌else◌, codes, IfOk, Option, Some, None}
use Rattle.scripts.specs.Checks.{checked_lines}
use Rattle.thread_plans.specs.declared.plan.RoundKind.{RoundKind}
use Rattle.thread_plans.specs.declared.plan.RoundKind.TheVariants as kinds
use Rattle.thread_plans.specs.declared.plan.Rounds.{Rounds}
use Rattle.thread_plans.specs.Plans.{PlanValue, plan_in}
use Rattle.thread_warnings.specs.Runs.{Lists, RunFaults}
use Rattle.thread_warnings.specs.Warnings.{warned_lines}
use Rattle.thread_checks.specs.declared.views.View.TheVariants as views
use Rattle.thread_checks.specs.Scans.{scan_lines}
use Rattle.thread_checks.specs.Views.{all_rounds, view_of}

-- so many rounds and so many more, as far as a node does so many
abbrev pub rounds_sum : ℕ → ℕ → ℕ
rounds_sum first beside = if nat_lt (first + beside) (2 ^ 32) then first + beside else 4294967295

abbrev pub some_rounds : ℕ → RoundKind → Option Rounds
some_rounds count kind = Some (record { count = count; kind = kind })

-- the rounds of a node, all of which are of this kind: first those before the workers, if there are any, and then those
-- beside them
abbrev pub rounds_with : Option ℕ → Option Rounds → RoundKind → Option Rounds
rounds_with None None kind = None
rounds_with None (Some beside) kind = some_rounds beside.count kind
rounds_with (Some first) None kind = some_rounds first kind
rounds_with (Some first) (Some beside) kind = some_rounds (rounds_sum first beside.count) kind

abbrev pub with_rounds : PlanValue → Option ℕ → RoundKind → PlanValue
with_rounds plan first kind = record plan { gossip = rounds_with first plan.gossip kind }

abbrev pub without_starts : PlanValue → PlanValue
without_starts plan = record plan { starts = [] }

-- the script without the lines that only one that is checked has
abbrev pub plain_text : List ℕ → List ℕ
plain_text script = view_of views.Plan script

-- the rounds of the first line with such a last word
abbrev pub rounds_asked : List ℕ → List ℕ → Option ℕ
rounds_asked meant script = slice_get (all_rounds meant script) 0

-- the nodes share their rights where some line says so
abbrev pub kind_by : Option ℕ → RoundKind
kind_by None = kinds.Telling
kind_by (Some rounds) = kinds.Sharing

-- the plan that is played: with the rounds before the workers, and of the kind that the script says
abbrev pub plan_with : List ℕ → PlanValue → PlanValue
plan_with script plan =
    with_rounds plan (rounds_asked (codes "first") script) (kind_by (rounds_asked (codes "share") script))

-- What is said of the lines that fail, where calls were refused so and waits in these lines were in vain, by the lines
-- that were answered and whether the audit says yes: of those before the workers as of a script of calls that is
-- checked; of the workers what a run is warned of; and of waits, of lines that expect what is printed, and of places. A
-- line each: nothing, where none fails.
abbrev pub failed_lines : List ℕ → PlanValue → Lists → RunFaults → List ℕ → List ℕ → Bool → List (List ℕ)
failed_lines script plan lists faults vain answered explained =
    checked_lines (view_of views.Starts script)
    ++ (warned_lines (view_of views.Workers script) (without_starts plan) lists faults explained
    ++ scan_lines script vain answered)

-- a script's plan has so many nodes, of which each accepts so many calls
abbrev pub IsSizeOf : List ℕ → ℕ → ℕ → Type 0
IsSizeOf script nodes cap = IfOk (plan_in (plain_text script)) (λ plan. (plan.nodes ≡ nodes) × (plan.cap ≡ cap))
